-- The parser's steps.
use Rattle.std.proofs.Common.{◌≡◌, ℕ, ◌-◌, ◌<◌, ◌≤◌, false, List, [], ◌∷◌, ◌++◌, sym, ap, ◌∙◌, subst, arith, append_assoc, append-nil, length, length-append, get_or, take, drop, Vec, ◌+◌}
use Rattle.std.specs.declared.sync.Arc.{Arc}
use Rattle.std.proofs.lemmas.List.{take_all, take_more}
use Rattle.dbus_texts.specs.Types.{TypeTree, TypeTrees, StructType, EntryType, NoTypes, MoreTypes, sig, sigs, IsComplete, IsSingleType, AreComplete}
use Rattle.dbus_texts.specs.Kinds.{IsSingle, IsSignature}
use Rattle.dbus_texts.proofs.TypeTexts.{sig_positive, sigs_same}
use Rattle.dbus_texts.specs.PlainTypes.{AreSignatureTypes}
use Rattle.dbus_types.specs.declared.sig_type.SigType as ty
use Rattle.dbus_types.specs.declared.sig_type.SigType.{SigType}
use Rattle.dbus_types.specs.SigTypes.{type_tree, type_trees_of}
use Rattle.dbus_types.specs.Parses.{StartsType, StartsFields, ReadsType, ReadsFields, IsTypeText, IsTextOfTypes}
use Rattle.dbus_types.proofs.TypeEnds.{type_tree-Struct, type_tree-Entry}
use Rattle.dbus_types.proofs.PrefixSteps.{text_same, StartsPair}

pub not_empty_at : (w : List ℕ) → length w ≡ 0 → StartsType w → ⊥
not_empty_at w e h = omega (arith, e, ap length h.spelled, length-append (sig h.tree) h.rest, sig_positive h.tree)

pub left_of_end : (s : List ℕ) → (rest : List ℕ) × (s ≡ 125 ∷ rest) → 1 ≤ length s
left_of_end s z = let l = ap length z.1 in omega arith

-- types up to `)`
fields_go : (w : List ℕ) (ts : TypeTrees) (r : List ℕ) → (get_or w 0 0 ≡ 41 → ⊥) → w ≡ sigs ts ++ 41 ∷ r → StartsType w
fields_go w NoTypes r n q = absurd (n (ap (λ v. get_or v 0 0) q))
fields_go w (MoreTypes t ts) r n q = record { tree = t; rest = sigs ts ++ 41 ∷ r; spelled = q ∙ append_assoc (sig t) (sigs ts) (41 ∷ r) }

pub fields_type : (w : List ℕ) → (get_or w 0 0 ≡ 41 → ⊥) → StartsFields w → StartsType w
fields_type w n h = fields_go w h.trees h.rest n h.spelled

-- a text of types that is not empty begins with one
types_start : (w : List ℕ) (ts : TypeTrees) → w ≡ sigs ts → 0 < length w → StartsType w
types_start w NoTypes e l = absurd (omega (arith, ap length e))
types_start w (MoreTypes t ts) e l = record { tree = t; rest = sigs ts; spelled = e }

pub text_starts : (w : List ℕ) → 0 < length w → IsTextOfTypes w → StartsType w
text_starts w l h = types_start w h.0 h.1 l

module _ {A : Type 0} where
  pub reads_shorter : (w : List ℕ) (t : SigType A) (r : List ℕ) → ReadsType w t r → length r < length w
  reads_shorter w t r h =
      let e = ap length h.spelled ∙ length-append (sig (type_tree t)) r in
      omega (arith, sig_positive (type_tree t))

  -- a key and a value
  pub pair_value : (w : List ℕ) (k : SigType A) (r : List ℕ) → StartsPair w → ReadsType w k r → StartsType r
  pair_value w k r p h =
      let q = text_same p.key (type_tree k) (sig p.value ++ 125 ∷ p.rest) r (sym p.spelled ∙ h.spelled) in
      record { tree = p.value; rest = 125 ∷ p.rest; spelled = sym q.1 }

  pub pair_end : (w : List ℕ) (k : SigType A) (r : List ℕ) (v : SigType A) (s : List ℕ) → StartsPair w → ReadsType w k r → ReadsType r v s → (rest : List ℕ) × (s ≡ 125 ∷ rest)
  pair_end w k r v s p h i =
      let q = text_same p.key (type_tree k) (sig p.value ++ 125 ∷ p.rest) r (sym p.spelled ∙ h.spelled) in
      let z = text_same p.value (type_tree v) (125 ∷ p.rest) s (q.1 ∙ i.spelled) in
      (p.rest, sym z.1)

  -- types up to `)`
  more_go : (w : List ℕ) (t : SigType A) (more : List ℕ) (ts : TypeTrees) (r : List ℕ) → (get_or w 0 0 ≡ 41 → ⊥) → w ≡ sigs ts ++ 41 ∷ r → ReadsType w t more → StartsFields more
  more_go w t more NoTypes r n q h = absurd (n (ap (λ v. get_or v 0 0) q))
  more_go w t more (MoreTypes u ts) r n q h =
      let z = text_same u (type_tree t) (sigs ts ++ 41 ∷ r) more (sym (append_assoc (sig u) (sigs ts) (41 ∷ r)) ∙ sym q ∙ h.spelled) in
      record { trees = ts; rest = r; spelled = sym z.1 }

  pub fields_more : (w : List ℕ) (t : SigType A) (more : List ℕ) → (get_or w 0 0 ≡ 41 → ⊥) → StartsFields w → ReadsType w t more → StartsFields more
  fields_more w t more n h i = more_go w t more h.trees h.rest n h.spelled i

  pub texts_push : (ts : List (SigType A)) (t : SigType A) → sigs (type_trees_of (ts ++ t ∷ [])) ≡ sigs (type_trees_of ts) ++ sig (type_tree t)
  texts_push [] t = append-nil (sig (type_tree t))
  texts_push (u ∷ ts) t = ap (λ v. sig (type_tree u) ++ v) (texts_push ts t) ∙ sym (append_assoc (sig (type_tree u)) (sigs (type_trees_of ts)) (sig (type_tree t)))

  pub spelled_push : (ts : List (SigType A)) (t : SigType A) (us : List (SigType A)) (w more : List ℕ) → us ≡ ts ++ t ∷ [] → w ≡ sig (type_tree t) ++ more → sigs (type_trees_of ts) ++ w ≡ sigs (type_trees_of us) ++ more
  spelled_push ts t us w more e q =
      ap (λ v. sigs (type_trees_of ts) ++ v) q ∙ sym (append_assoc (sigs (type_trees_of ts)) (sig (type_tree t)) more) ∙ ap (λ v. v ++ more) (sym (texts_push ts t)) ∙ ap (λ v. sigs (type_trees_of v) ++ more) (sym e)

  -- a type made from those inside it
  pub reads_struct : (w c : List ℕ) (b : ℕ) (p : Arc (Vec (SigType A) A) A) (v : Vec (SigType A) A) (r : List ℕ) → w ≡ b ∷ c → b ≡ 40 → p.value ≡ v → ReadsFields c v.items r → ReadsType w (ty.Struct p) r
  reads_struct w c b p v r e n same h =
      let whole : w ≡ sig (StructType (type_trees_of p.value.items)) ++ r = simp (e, n, h.spelled, same, append_assoc) in
      record { spelled = whole ∙ ap (λ t. sig t ++ r) (sym (type_tree-Struct p)) }

  pub reads_entry : (w c : List ℕ) (b : ℕ) (k v : Arc (SigType A) A) (x y : SigType A) (r s : List ℕ) → w ≡ b ∷ c → b ≡ 123 → k.value ≡ x → v.value ≡ y → ReadsType c x r → ReadsType r y s → (rest : List ℕ) × (s ≡ 125 ∷ rest) → ReadsType w (ty.Entry k v) (take (length s - 1) (drop 1 s))
  reads_entry w c b k v x y r s e n ek ev hx hy z =
      let end : take (length s - 1) (drop 1 s) ≡ z.0 = ap (λ q. take (length q - 1) (drop 1 q)) z.1 ∙ take_all (length (125 ∷ z.0) - 1) z.0 (omega arith) in
      let whole : w ≡ sig (EntryType (type_tree k.value) (type_tree v.value)) ++ z.0 = simp (e, n, hx.spelled, hy.spelled, z.1, ek, ev, append_assoc) in
      record { spelled = whole ∙ ap (λ t. sig t ++ z.0) (sym (type_tree-Entry k v)) ∙ ap (λ q. sig (type_tree (ty.Entry k v)) ++ q) (sym end) }

  -- the types after the first
  types_go : (w : List ℕ) (t : SigType A) (more : List ℕ) (ts : TypeTrees) → w ≡ sigs ts → 0 < length w → ReadsType w t more → IsTextOfTypes more
  types_go w t more NoTypes e l r = absurd (omega (arith, ap length e))
  types_go w t more (MoreTypes u ts) e l r = (ts, sym (text_same u (type_tree t) (sigs ts) more (sym e ∙ r.spelled)).1)

  pub text_left : (w : List ℕ) (t : SigType A) (more : List ℕ) → 0 < length w → IsTextOfTypes w → ReadsType w t more → IsTextOfTypes more
  text_left w t more l h r = types_go w t more h.0 h.1 l r

  -- the text is that of one type
  pub one_text : (w : List ℕ) (t : SigType A) (more : List ℕ) → IsTypeText w → ReadsType w t more → sig (type_tree t) ≡ w
  one_text w t more h r = sym (h.1 ∙ ap sig (text_same h.0 (type_tree t) [] more (append-nil (sig h.0) ∙ sym h.1 ∙ r.spelled)).0)

-- a type whose text is a signature of exactly one
pub single_type : (t : TypeTree) → IsSingle (sig t) → length (sig t) < 256 → IsSingleType t
single_type t h l = (subst (λ u. IsComplete u false 0 0) (text_same h.0 t [] [] (append-nil (sig h.0) ∙ sym h.2 ∙ sym (append-nil (sig t)))).0 h.1, l)

-- The writer's steps.

module _ {A : Type 0} where
  pub one_text_more : (ts : List (SigType A)) (i : ℕ) (d : SigType A) (b0 b b' : List ℕ) → i < length ts → b ≡ b0 ++ sigs (type_trees_of (take i ts)) → b' ≡ b ++ sig (type_tree (get_or ts i d)) → b' ≡ b0 ++ sigs (type_trees_of (take (i + 1) ts))
  one_text_more ts i d b0 b b' l e q =
      let t = get_or ts i d in
      q ∙ ap (λ x. x ++ sig (type_tree t)) e ∙ append_assoc b0 (sigs (type_trees_of (take i ts))) (sig (type_tree t)) ∙ ap (λ x. b0 ++ x) (sym (ap (λ us. sigs (type_trees_of us)) (take_more ts i d l) ∙ texts_push (take i ts) t))

-- types whose text is a signature
pub spelled_types : (ts : TypeTrees) → IsSignature (sigs ts) → length (sigs ts) < 256 → AreSignatureTypes ts
spelled_types ts h l = (subst (λ us. AreComplete us 0 0) (sym (sigs_same ts h.0 h.2)) h.1, l)
