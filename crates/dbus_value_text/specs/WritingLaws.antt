-- The texts of values one after another, and that of a container by its parts.
use Rattle.std.proofs.Common.{◌≡◌, ℕ, List, [], ◌∷◌, ◌++◌, refl, sym, ap, subst, ◌∙◌, append-nil, append_assoc}
use Rattle.std.specs.List.{flat_map}
use Rattle.std.proofs.lemmas.List.Concat.{flat_map-append}
use Rattle.dbus_value_model.specs.Values.{ValueTree, ValueTrees, NoValues, value_trees}
use Rattle.dbus_walk.specs.Containers.{parts, is_none}
use Rattle.dbus_show.proofs.FieldTexts.{then}
use Rattle.dbus_value_text.specs.Gaining.{Joins}
use Rattle.dbus_value_text.specs.Forms.{AreTexts, IsListed, joined, part_text}
use Rattle.dbus_value_text.specs.Writing.{Writes, WritesSome, WritesAll, Opens}
use Rattle.dbus_value_text.specs.declared.writer.Writer.{Writer}

module _ (Is : ValueTree → List ℕ → Type 0) where
  pub texts_push : (xs : List ValueTree) (v : ValueTree) (texts : List (List ℕ)) (text : List ℕ) → AreTexts Is (value_trees xs) texts → Is v text → AreTexts Is (value_trees (xs ++ v ∷ [])) (texts ++ text ∷ [])
  texts_push [] v [] text h is = (is, tt)
  texts_push [] v (t ∷ texts) text h is = absurd h
  texts_push (x ∷ xs) v [] text h is = absurd h
  texts_push (x ∷ xs) v (t ∷ texts) text h is = (h.0, texts_push xs v texts text h.1 is)

  joined_push : (separator : List ℕ) (xs : List ValueTree) (texts : List (List ℕ)) (text : List ℕ) → AreTexts Is (value_trees xs) texts
      → joined separator texts ++ (part_text separator (is_none xs) ++ text) ≡ joined separator (texts ++ text ∷ [])
  joined_push separator [] [] text h = sym (append-nil text)
  joined_push separator [] (t ∷ texts) text h = absurd h
  joined_push separator (x ∷ xs) [] text h = absurd h
  joined_push separator (x ∷ xs) (t ∷ texts) text h =
      let more = λ (s : List ℕ). separator ++ s in
      append_assoc t (flat_map more texts) (more text)
      ∙ ap (λ (s : List ℕ). t ++ s) (ap (λ (s : List ℕ). flat_map more texts ++ s) (sym (append-nil (more text))) ∙ sym (flat_map-append more texts (text ∷ [])))

module _ {D F : Type 0} (gains : D → List ℕ → D → Type 0) (joins : Joins gains) (Is : ValueTree → List ℕ → Type 0) (separator : List ℕ) where
  pub none_written : ((d : D) → gains d [] d) → (s : Writer D F) → WritesAll gains Is separator s NoValues s
  none_written nothing s = ([], tt, record { same = refl; gained = nothing s.draft.now })

  then_writes : {s t : List ℕ} (a b c : Writer D F) → Writes gains a s b → Writes gains b t c → Writes gains a (s ++ t) c
  then_writes a b c p q = record { same = q.same ∙ p.same; gained = then gains joins p.gained q.gained }

  pub more_written : (s before parted after : Writer D F) (done : List ValueTree) (v : ValueTree) → WritesAll gains Is separator s (value_trees done) before
      → Writes gains before (part_text separator (is_none done)) parted → WritesSome gains parted (Is v) after → WritesAll gains Is separator s (value_trees (done ++ v ∷ [])) after
  more_written s before parted after done v first between second =
      let written = then_writes s before after first.2 (then_writes before parted after between second.2) in
      let all = joined_push Is separator done first.0 second.0 first.1 in
      (first.0 ++ second.0 ∷ [], texts_push Is done v first.0 second.0 first.1 second.1, subst (λ (l : List ℕ). Writes gains s l after) all written)

  pub whole_written : (start close : ValueTree → List ℕ)
      → ((v : ValueTree) (texts : List (List ℕ)) → IsListed v → AreTexts Is (parts v) texts → Is v (start v ++ (joined separator texts ++ close v)))
      → (s opened filled after : Writer D F) (v : ValueTree) (xs : List ValueTree) → Opens gains s v (start v) opened → parts v ≡ value_trees xs
      → WritesAll gains Is separator opened (value_trees xs) filled → Writes gains filled (close v) after → WritesSome gains s (Is v) after
  whole_written start close whole s opened filled after v xs opens has many closes =
      let are = subst (λ (vs : ValueTrees). AreTexts Is vs many.0) (sym has) many.1 in
      (_, whole v many.0 opens.listed are, then_writes s opened after opens.written (then_writes opened filled after many.2 closes))
