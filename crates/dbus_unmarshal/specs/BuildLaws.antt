-- What is gathered of values one after another, and of a container by its parts.
-- D-Bus Specification, "Type System".
-- The proofs of the laws that a `Visitor` owes, of the one that builds values.
use Rattle.std.proofs.Common.{◌≡◌, ℕ, zero, suc, List, [], ◌∷◌, ◌++◌, sym, ap, subst, ◌∙◌, append-nil, append_assoc}
use Rattle.dbus_value_model.specs.Values.{ValueTree, NumberValue, TextValue, VariantValue, ArrayValue, StructValue, EntryValue, IsWellFormed, AreWellFormed, value_trees}
use Rattle.dbus_walk.specs.Containers.{parts}
use Rattle.dbus_unmarshal.specs.declared.gathered.Gathered.{Gathered}
use Rattle.dbus_unmarshal.specs.Builds.{AreFormed, Holds, IsNext, Opens, Gathers, Closes}

-- the parts of a value that is well formed are well formed
parts_formed : (depth_left : ℕ) (v : ValueTree) → IsWellFormed depth_left v → (inner : ℕ) × AreWellFormed inner (parts v)
parts_formed depth_left (NumberValue k n) h = (depth_left, tt)
parts_formed depth_left (TextValue k t) h = (depth_left, tt)
parts_formed zero (VariantValue x) h = absurd h
parts_formed (suc depth_left) (VariantValue x) h = (depth_left, (h.1, tt))
parts_formed zero (ArrayValue t xs) h = absurd h
parts_formed (suc depth_left) (ArrayValue t xs) h = (depth_left, h.1)
parts_formed zero (StructValue xs) h = absurd h
parts_formed (suc depth_left) (StructValue xs) h = (depth_left, h)
parts_formed depth_left (EntryValue x y) h = (depth_left, (h.0, (h.1, tt)))

one_formed : (depth_left : ℕ) (done us : List ValueTree) (x : ValueTree) → AreWellFormed depth_left (value_trees (done ++ x ∷ us)) → IsWellFormed depth_left x
one_formed depth_left [] us x h = h.0
one_formed depth_left (y ∷ done) us x h = one_formed depth_left done us x h.1

-- each part is
pub part_formed : (v : ValueTree) (done us : List ValueTree) (x : ValueTree) → AreFormed v → parts v ≡ value_trees (done ++ x ∷ us) → (depth_left : ℕ) × IsWellFormed depth_left x
part_formed v done us x formed has = (formed.0, one_formed formed.0 done us x (subst (AreWellFormed formed.0) has formed.1))

module _ {A : Type 0} (m : Gathered A) where
  pub none_gathered : Gathers m [] m
  none_gathered v done us formed has h = subst (λ (l : List ValueTree). Holds m v l) (sym (append-nil done)) h

  pub more_gathered : (gathered later : Gathered A) (xs : List ValueTree) (x : ValueTree) → Gathers m xs gathered → Gathers gathered (x ∷ []) later → Gathers m (xs ++ x ∷ []) later
  more_gathered gathered later xs x first second v done us formed has h =
      let split : parts v ≡ value_trees (done ++ (xs ++ x ∷ us)) = has ∙ ap (λ (l : List ValueTree). value_trees (done ++ l)) (append_assoc xs (x ∷ []) us) in
      let here : parts v ≡ value_trees ((done ++ xs) ++ x ∷ us) = split ∙ ap value_trees (sym (append_assoc done xs (x ∷ us))) in
      subst (λ (l : List ValueTree). Holds later v l) (append_assoc done xs (x ∷ [])) (second v (done ++ xs) us formed here (first v done (x ∷ us) formed split h))

  pub whole_built : (none held later : Gathered A) (v : ValueTree) (xs : List ValueTree) → Opens m v none → parts v ≡ value_trees xs → Gathers none xs held → Closes m held v later → Gathers m (v ∷ []) later
  whole_built none held later v xs opens has many closes u done us formed there h =
      let next : IsNext m u done v us = record { formed = formed; has = there; held = h } in
      let p = part_formed u done us v formed there in
      closes u done us xs next (many v [] [] (parts_formed p.0 v p.1) (has ∙ ap value_trees (sym (append-nil xs))) (opens u done us next)) has
