-- Damaged bytes are made of parts in one way, and no message after the damage is lost.
use Rattle.std.proofs.Common.{◌≡◌, ℕ, ◌+◌, ◌-◌, ◌<◌, ◌≤◌, List, [], ◌∷◌, ◌++◌, length, take, drop, refl, sym, ◌∙◌, ap, subst, arith, inl, inr}
use Rattle.std.proofs.Math.Seq.{drop-append_seam, take-append-add}
use Rattle.std.proofs.lemmas.Bool.{cases_lt}
use Rattle.std.proofs.lemmas.List.{length-drop}
use Rattle.dbus_value_model.specs.declared.limits.Limits.{Limits}
use Rattle.dbus_message_model.specs.Messages.{message_bytes}
use Rattle.dbus_header.specs.MessageOutcomes.{IsWhole}
use Rattle.dbus_header.proofs.OutcomeLaws.{one_whole, valid_whole, whole_inside}
use Rattle.dbus_resync.specs.Search.{BeginsAt, IsFirst, NoneBefore}
use Rattle.dbus_resync.specs.DamagedInputs.{AreParts, IsLost, IsRest, Lost, NextIsMet, OneWay, Part, Whole}

module _ (limits : Limits) where
  -- where a message begins, bytes are left
  pub begins_inside : (bytes : List ℕ) (k : ℕ) → BeginsAt limits bytes k → k < length bytes
  begins_inside bytes k b =
      let some = whole_inside limits (drop k bytes) b.0 b.1 b.2 b.3 in
      let long = length-drop k bytes in
      omega (arith, some.0, some.1, long)

  -- and not before the first one
  pub not_before : (bytes : List ℕ) (n k : ℕ) → NoneBefore limits bytes n → BeginsAt limits bytes k → n ≤ k
  not_before bytes n k none b = elim (cases_lt k n) [
    | inl less ↦ absurd (none k less b.0 b.1 b.2 b.3)
    | inr more ↦ more
  ]

  pub one_first : (bytes : List ℕ) (n k : ℕ) → IsFirst limits bytes n → IsFirst limits bytes k → n ≡ k
  one_first bytes n k a b =
      let up = not_before bytes n k a.least b.begins in
      let down = not_before bytes k n b.least a.begins in
      omega (arith, up, down)

  module _ (window : ℕ) where
    -- a part is no rest
    no_rest : (bytes : List ℕ) (size : ℕ) → IsRest limits window bytes → IsLost limits window bytes size → ⊥
    no_rest bytes size r l =
        let inside = begins_inside (take window bytes) size l.next.begins in
        let past = not_before (take window bytes) (length (take window bytes)) size r.nowhere l.next.begins in
        omega (arith, inside, past)

    parts_once : (bytes : List ℕ) (parts others : List Part) (rest last : List ℕ) → AreParts limits window bytes parts rest → AreParts limits window bytes others last → (parts ≡ others) × (rest ≡ last)
    parts_once bytes [] [] rest last p q = (refl, sym p.0 ∙ q.0)
    parts_once bytes [] (Whole order m n ∷ others) rest last p q =
        let r = subst (λ (l : List ℕ). IsRest limits window l) (sym p.0) p.1 in
        absurd (r.none order m n q.0)
    parts_once bytes [] (Lost n ∷ others) rest last p q =
        let r = subst (λ (l : List ℕ). IsRest limits window l) (sym p.0) p.1 in
        absurd (no_rest bytes n r q.0)
    parts_once bytes (Whole order m n ∷ parts) [] rest last p q =
        let r = subst (λ (l : List ℕ). IsRest limits window l) (sym q.0) q.1 in
        absurd (r.none order m n p.0)
    parts_once bytes (Lost n ∷ parts) [] rest last p q =
        let r = subst (λ (l : List ℕ). IsRest limits window l) (sym q.0) q.1 in
        absurd (no_rest bytes n r p.0)
    parts_once bytes (Whole order m n ∷ parts) (Whole other l k ∷ others) rest last p q =
        let one = one_whole limits bytes order other m l n k p.0 q.0 in
        let there = subst (λ i. AreParts limits window (drop i bytes) others last) (sym one.2) q.1 in
        let more = parts_once (drop n bytes) parts others rest last p.1 there in
        ((λ i. Whole (one.0 i) (one.1 i) (one.2 i) ∷ more.0 i), more.1)
    parts_once bytes (Whole order m n ∷ parts) (Lost k ∷ others) rest last p q = absurd (q.0.none order m n p.0)
    parts_once bytes (Lost n ∷ parts) (Whole order m k ∷ others) rest last p q = absurd (p.0.none order m k q.0)
    parts_once bytes (Lost n ∷ parts) (Lost k ∷ others) rest last p q =
        let one = one_first (take window bytes) n k p.0.next q.0.next in
        let there = subst (λ i. AreParts limits window (drop i bytes) others last) (sym one) q.1 in
        let more = parts_once (drop n bytes) parts others rest last p.1 there in
        ((λ i. Lost (one i) ∷ more.0 i), more.1)

-- a message that lies in the window begins in what is looked at
in_window : (window : ℕ) (damaged message after : List ℕ) → length damaged + length message ≤ window → (rest : List ℕ) × (drop (length damaged) (take window (damaged ++ (message ++ after))) ≡ message ++ rest)
in_window window damaged message after fits =
    let more = window - length damaged - length message in
    let wide : window ≡ length damaged + (length message + more) = omega (arith, fits) in
    let looked : take window (damaged ++ (message ++ after)) ≡ damaged ++ (message ++ take more after)
    = ap (λ (n : ℕ). take n (damaged ++ (message ++ after))) wide ∙ (take-append-add damaged (message ++ after) (length message + more) ∙ ap (λ (l : List ℕ). damaged ++ l) (take-append-add message after more)) in
    (take more after, ap (drop (length damaged)) looked ∙ drop-append_seam damaged (message ++ take more after))

pub one_way : OneWay
one_way limits window bytes parts others rest last p q = parts_once limits window bytes parts others rest last p q

pub next_is_met : NextIsMet
next_is_met limits window damaged order m after size valid fits l =
    let spelled = message_bytes order m in
    let there = in_window window damaged spelled after fits in
    let whole = subst (λ (b : List ℕ). IsWhole limits b order m (length spelled)) (sym there.1) (valid_whole limits order m there.0 valid) in
    not_before limits (take window (damaged ++ (spelled ++ after))) size (length damaged) l.next.least (order, m, length spelled, whole)
