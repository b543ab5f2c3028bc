-- What the items use of the texts that are wanted.
use Rattle.std.proofs.Common.{append-nil, sym, ◌∙◌, subst, zero, take, inl, inr, ◌≡◌, ℕ, suc, ◌<◌, ◌≤◌, List, [], ◌∷◌, ◌++◌, length, Bool, true, false, eqb, cond, refl, ap, arith}
use Rattle.std.proofs.lemmas.Bool.{cases_lt, and_parts, and_from, eqb-true, eq-eqb}
use Rattle.dbus_texts.specs.Types.{TypeTree, TypeTrees, NoTypes, MoreTypes, sig, sigs, IsSingleType, AreShaped}
use Rattle.dbus_texts.specs.Kinds.{IsPrefixIn, IsBreakIn}
use Rattle.dbus_texts.specs.ComputedKinds.{type_spelled, types_spelled}
use Rattle.dbus_texts.specs.declared.text_kind.TextKind.TheVariants as kinds
use Rattle.dbus_texts.proofs.KindFacts as facts
pub use Rattle.dbus_texts.proofs.TypeTexts.{spelled_sig, spelled_sigs}
use Rattle.dbus_value_model.specs.WantedTexts.{WantedText, Of, Only, IsWanted, IsBreakOf}
use Rattle.dbus_value_model.specs.ComputedTexts.{is_kind, break_at, same_text, alike}

alike_le : (u t : List ℕ) → alike u t ≤ length t
alike_le [] t = omega arith
alike_le (a ∷ u) [] = omega arith
alike_le (a ∷ u) (b ∷ t) = elim (eqb a b) as (λ w. cond w (suc (alike u t)) 0 ≤ suc (length t)) [ true ↦ omega (arith, alike_le u t) | false ↦ omega arith ]

alike_more : (u t c : List ℕ) → alike u t < length t → alike u (t ++ c) ≡ alike u t
alike_more [] t c h = refl
alike_more (a ∷ u) [] c h = absurd (omega arith)
alike_more (a ∷ u) (b ∷ t) c h = alike_step a b u t c (eqb a b) h (alike_more u t c)
  where
    alike_step : (a b : ℕ) (u t c : List ℕ) (w : Bool) → cond w (suc (alike u t)) 0 < suc (length t) → (alike u t < length t → alike u (t ++ c) ≡ alike u t) → cond w (suc (alike u (t ++ c))) 0 ≡ cond w (suc (alike u t)) 0
    alike_step a b u t c true h ih = ap suc (ih (omega arith))
    alike_step a b u t c false h ih = refl

alike_same : (t : List ℕ) → alike t t ≡ length t
alike_same [] = refl
alike_same (b ∷ t) = rw (eq-eqb b b refl) (ap suc (alike_same t))

pub same_text_is : (s t : List ℕ) → same_text s t ≡ true → s ≡ t
same_text_is [] [] h = refl
same_text_is [] (b ∷ t) h = absurd cc
same_text_is (a ∷ s) [] h = absurd cc
same_text_is (a ∷ s) (b ∷ t) h =
    let w = and_parts _ _ h in
    let e : a ≡ b = eqb-true _ _ w.0 in
    let f : s ≡ t = same_text_is s t w.1 in
    cc

same_text_same : (s : List ℕ) → same_text s s ≡ true
same_text_same [] = refl
same_text_same (a ∷ s) = and_from _ _ (eq-eqb a a refl) (same_text_same s)

alike_whole : (u t : List ℕ) → same_text u t ≡ true → alike u t ≡ length t
alike_whole u t h = rw (same_text_is u t h) (alike_same t)

pub break_le : (k : WantedText) (t : List ℕ) → break_at k t ≤ length t
unfolding break_at
break_le (Of k) t = facts.break_le k t
break_le (Only u) t = alike_le u t

-- once a text has broken, it stays broken there
pub break_more : (k : WantedText) (t c : List ℕ) → break_at k t < length t → break_at k (t ++ c) ≡ break_at k t
unfolding break_at
break_more (Of k) t c h = facts.break_more k t c h
break_more (Only u) t c h = alike_more u t c h

pub computed_whole : (k : WantedText) (t : List ℕ) → is_kind k t ≡ true → break_at k t ≡ length t
unfolding break_at is_kind
computed_whole (Of k) t h = facts.break_whole k t h
computed_whole (Only u) t h = alike_whole u t h

pub signature_text : (t : List ℕ) → IsWanted (Of kinds.Signature) t → AreShaped (types_spelled t) × (sigs (types_spelled t) ≡ t)
signature_text t h =
    let w = facts.signature_text_is t (facts.is_kind_of kinds.Signature t h) in
    (facts.are_shaped_of (types_spelled t) 0 0 w.0.0, w.1)

pub signature_types : (t : List ℕ) → IsWanted (Of kinds.Signature) t → (ts : TypeTrees) × ((t ≡ sigs ts) × AreShaped ts)
signature_types t h = let w = signature_text t h in (types_spelled t, (sym w.1, w.0))

-- a single type as a list of types
pub held_types : (t : TypeTree) (types : List ℕ) → types ≡ sig t → IsSingleType t → (types ≡ sigs (MoreTypes t NoTypes)) × AreShaped (MoreTypes t NoTypes)
held_types t types is single = (is ∙ sym (append-nil (sig t)), (facts.shaped_of t false 0 0 single.0, tt))

pub only_is : (u t : List ℕ) → IsWanted (Only u) t → u ≡ t
only_is u t h = sym h

pub only_same : (u : List ℕ) → IsWanted (Only u) u
only_same u = refl

pub single_text : (t : List ℕ) → IsWanted (Of kinds.Single) t → IsSingleType (type_spelled t) × (sig (type_spelled t) ≡ t)
single_text t h = facts.single_text t (facts.is_kind_of kinds.Single t h)

pub text_single : (t : TypeTree) → IsSingleType t → IsWanted (Of kinds.Single) (sig t) × (type_spelled (sig t) ≡ t)
text_single t h =
    let w = facts.text_single t h in
    (facts.kind_is kinds.Single (sig t) w.0, w.1)

-- ---- the relations and what is computed

pub wanted_is : (k : WantedText) (t : List ℕ) → is_kind k t ≡ true → IsWanted k t
unfolding is_kind
wanted_is (Of k) t h = facts.kind_is k t h
wanted_is (Only u) t h = sym (same_text_is u t h)

pub is_wanted : (k : WantedText) (t : List ℕ) → IsWanted k t → is_kind k t ≡ true
unfolding is_kind
is_wanted (Of k) t h = facts.is_kind_of k t h
is_wanted (Only u) t h = rw h (same_text_same u)

pub not_wanted : (k : WantedText) (t : List ℕ) → is_kind k t ≡ false → IsWanted k t → ⊥
not_wanted k t unlike h = let both : true ≡ false = sym (is_wanted k t h) ∙ unlike in absurd cc

pub is_not_wanted : (k : WantedText) (t : List ℕ) → (IsWanted k t → ⊥) → is_kind k t ≡ false
is_not_wanted k t h = decided (is_kind k t) (λ e. h (wanted_is k t e))
  where
    decided : (b : Bool) → (b ≡ true → ⊥) → b ≡ false
    decided true n = absurd (n refl)
    decided false n = refl

-- one of its prefixes begins a text alone
abbrev BeginsOnly : List ℕ → List ℕ → Type 0
BeginsOnly u v = IsPrefixIn (λ w. w ≡ u) v

alike_front : (u t : List ℕ) → BeginsOnly u (take (alike u t) t)
alike_front [] t = ([], refl)
alike_front (a ∷ u) [] = (a ∷ u, refl)
alike_front (a ∷ u) (b ∷ t) = front_at a b u t (eqb a b) (eqb-true a b) (alike_front u t)
  where
    front_at : (a b : ℕ) (u t : List ℕ) (w : Bool) → (w ≡ true → a ≡ b) → BeginsOnly u (take (alike u t) t) → BeginsOnly (a ∷ u) (take (cond w (suc (alike u t)) 0) (b ∷ t))
    front_at a b u t true e h = (h.0, let same : a ≡ b = e refl in let rest : take (alike u t) t ++ h.0 ≡ u = h.1 in cc)
    front_at a b u t false e h = (a ∷ u, refl)

alike_longest : (u t : List ℕ) (m : ℕ) → alike u t < m → m ≤ length t → BeginsOnly u (take m t) → ⊥
alike_longest u t zero lt le h = absurd (omega arith)
alike_longest u [] (suc m) lt le h = absurd (omega arith)
alike_longest [] (b ∷ t) (suc m) lt le h = let e : b ∷ (take m t ++ h.0) ≡ [] = h.1 in absurd cc
alike_longest (a ∷ u) (b ∷ t) (suc m) lt le h =
    let e : b ∷ (take m t ++ h.0) ≡ a ∷ u = h.1 in
    let same : a ≡ b = cc in
    let rest : take m t ++ h.0 ≡ u = cc in
    let tested : eqb a b ≡ true = eq-eqb a b same in
    let less : suc (alike u t) < suc m = subst (λ (w : Bool). cond w (suc (alike u t)) 0 < suc m) tested lt in
    alike_longest u t m (omega arith) (omega arith) (h.0, rest)

pub break_is : (k : WantedText) (t : List ℕ) → IsBreakOf k t (break_at k t)
unfolding break_at
break_is (Of k) t = facts.break_is k t
break_is (Only u) t = record { within = alike_le u t; front = alike_front u t; longest = alike_longest u t }

break_in_le : (L : List ℕ → Type 0) (t : List ℕ) (i j : ℕ) → IsBreakIn L t i → IsBreakIn L t j → j ≤ i
break_in_le L t i j a b = elim (cases_lt i j) [
  | inl lt ↦ absurd (a.longest j lt b.within b.front)
  | inr le ↦ le
]

pub one_break : (k : WantedText) (t : List ℕ) (i j : ℕ) → IsBreakOf k t i → IsBreakOf k t j → i ≡ j
one_break (Of k) t i j a b = facts.one_break k t i j a b
one_break (Only u) t i j a b = omega (arith, break_in_le (λ v. v ≡ u) t i j a b, break_in_le (λ v. v ≡ u) t j i b a)

-- one of those wanted does not break
pub break_whole : (k : WantedText) (t : List ℕ) → IsWanted k t → break_at k t ≡ length t
break_whole k t h = computed_whole k t (is_wanted k t h)
