-- A search for a message comes to one thing.
use Rattle.std.proofs.Common.{◌≡◌, ℕ, suc, ◌+◌, ◌≤◌, List, [], ◌∷◌, length, drop, refl, sym, ◌∙◌, ap, subst, arith}
use Rattle.std.specs.Prelude.{sum, slice_index}
use Rattle.std.proofs.lemmas.List.{drop-drop, length-drop}
use Rattle.std.proofs.lemmas.List.Sums.{sum_by-append}
use Rattle.dbus_value_model.specs.declared.limits.Limits.{Limits}
use Rattle.dbus_resync.specs.Search.{AreLooked, Finds, KeepsEffort, Looks, LooksBefore, OneFound}
use Rattle.dbus_resync.specs.declared.found.Found.{Found}
use Rattle.dbus_resync.specs.declared.found.Found.TheVariants.{At, Nowhere, Spent}
use Rattle.dbus_resync.proofs.DamagedLaws.{begins_inside, not_before, one_first}
use Rattle.dbus_resync.proofs.Steps.{looks_once, looks_nothing}

sum-cons : (x : ℕ) (l : List ℕ) → sum (x ∷ l) ≡ x + sum l
sum-cons x l = grind (arith, sum_by-append (λ n. n) (x ∷ []) l)

module _ (limits : Limits) where
  -- the offsets but for the first
  looked_tail : (bytes : List ℕ) (x : ℕ) (looked : List ℕ) → AreLooked limits bytes (x ∷ looked) → AreLooked limits (drop 1 bytes) looked
  looked_tail bytes x looked are = record {
    each = λ k below.
        let next : 1 + k ≡ suc k = omega arith in
        let there : drop k (drop 1 bytes) ≡ drop (suc k) bytes = drop-drop k 1 bytes ∙ ap (λ (n : ℕ). drop n bytes) next in
        subst (λ (b : List ℕ). Looks limits b (slice_index looked k)) (sym there) (are.each (suc k) (omega (arith, below)));
  }

  looked_head : (bytes : List ℕ) (x : ℕ) (looked : List ℕ) → AreLooked limits bytes (x ∷ looked) → Looks limits bytes x
  looked_head bytes x looked are = are.each 0 (omega arith)

  -- no less is looked at for more offsets
  few_looked : (bytes looked more : List ℕ) → AreLooked limits bytes looked → AreLooked limits bytes more → length looked ≤ length more → sum looked ≤ sum more
  few_looked bytes [] more a b le = omega arith
  few_looked bytes (x ∷ looked) [] a b le = absurd (omega (arith, le))
  few_looked bytes (x ∷ looked) (y ∷ more) a b le =
      let same = looks_once limits bytes x y (looked_head bytes x looked a) (looked_head bytes y more b) in
      let rest = few_looked (drop 1 bytes) looked more (looked_tail bytes x looked a) (looked_tail bytes y more b) (omega (arith, le)) in
      omega (arith, same, rest, sum-cons x looked, sum-cons y more)

  -- and no more for offsets behind the bytes
  past_looked : (bytes looked more : List ℕ) → AreLooked limits bytes looked → AreLooked limits bytes more → length bytes ≤ length looked → sum more ≤ sum looked
  past_looked bytes looked [] a b le = omega arith
  past_looked bytes [] (y ∷ more) a b le =
      let long = length-drop 1 bytes in
      let none = looks_nothing limits bytes y (omega (arith, le)) (looked_head bytes y more b) in
      let rest = past_looked (drop 1 bytes) [] more (record { each = λ k below. absurd (omega (arith, below)) }) (looked_tail bytes y more b) (omega (arith, le, long)) in
      omega (arith, none, rest, sum-cons y more)
  past_looked bytes (x ∷ looked) (y ∷ more) a b le =
      let long = length-drop 1 bytes in
      let same = looks_once limits bytes x y (looked_head bytes x looked a) (looked_head bytes y more b) in
      let rest = past_looked (drop 1 bytes) looked more (looked_tail bytes x looked a) (looked_tail bytes y more b) (omega (arith, le, long)) in
      omega (arith, same, rest, sum-cons x looked, sum-cons y more)

  -- so far an effort suffices, or not
  up_to : (bytes : List ℕ) (offset further total more : ℕ) → LooksBefore limits bytes offset total → LooksBefore limits bytes further more → offset ≤ further → total ≤ more
  up_to bytes offset further total more a b le =
      let few = few_looked bytes a.0 b.0 a.1 b.1 (omega (arith, a.2, b.2, le)) in
      omega (arith, few, a.3, b.3)

  past : (bytes : List ℕ) (further total more : ℕ) → LooksBefore limits bytes (length bytes) total → LooksBefore limits bytes further more → more ≤ total
  past bytes further total more a b =
      let few = past_looked bytes a.0 b.0 a.1 b.1 (omega (arith, a.2)) in
      omega (arith, few, a.3, b.3)

  -- as much is looked at for as many offsets
  same_looked : (bytes : List ℕ) (offset further total more : ℕ) → LooksBefore limits bytes offset total → LooksBefore limits bytes further more → offset ≡ further → total ≡ more
  same_looked bytes offset further total more a b same =
      let up = up_to bytes offset further total more a b (omega (arith, same)) in
      let down = up_to bytes further offset more total b a (omega (arith, same)) in
      omega (arith, up, down)

  module _ (bytes : List ℕ) (effort : ℕ) where
    abbrev Is : (looked : ℕ) → Found → Type 0
    Is looked found = Finds limits bytes found × KeepsEffort limits bytes effort looked found

    -- a message that is found begins before the bytes' end
    at_none : (offset looked more : ℕ) → Is looked (At offset) → Is more Nowhere → ⊥
    at_none offset looked more a n =
        let inside = begins_inside limits bytes offset a.0.begins in
        let after = not_before limits bytes (length bytes) offset n.0 a.0.begins in
        omega (arith, inside, after)

    at_spent : (offset looked more : ℕ) → Is looked (At offset) → Is more Spent → ⊥
    at_spent offset looked more a s =
        let k = a.1 in
        let l = s.1 in
        let after = not_before limits bytes l.1 offset l.2 a.0.begins in
        let few = up_to bytes (l.1 + 1) (offset + 1) l.3 looked l.4 k.0 (omega (arith, after)) in
        omega (arith, few, k.1, l.5)

    none_spent : (looked more : ℕ) → Is looked Nowhere → Is more Spent → ⊥
    none_spent looked more n s =
        let k = n.1 in
        let l = s.1 in
        let few = past bytes (l.1 + 1) looked l.3 k.0 l.4 in
        omega (arith, few, k.1, l.5)

    one : (found other : Found) (looked more : ℕ) → Is looked found → Is more other → (found ≡ other) × (looked ≡ more)
    one (At n) (At k) looked more s t =
        let same = one_first limits bytes n k s.0 t.0 in
        (ap At same, same_looked bytes (n + 1) (k + 1) looked more s.1.0 t.1.0 (ap (λ (m : ℕ). m + 1) same))
    one (At n) Nowhere looked more s t = absurd (at_none n looked more s t)
    one (At n) Spent looked more s t = absurd (at_spent n looked more s t)
    one Nowhere (At k) looked more s t = absurd (at_none k more looked t s)
    one Nowhere Nowhere looked more s t = (refl, same_looked bytes (length bytes) (length bytes) looked more s.1.0 t.1.0 refl)
    one Nowhere Spent looked more s t = absurd (none_spent looked more s t)
    one Spent (At k) looked more s t = absurd (at_spent k more looked t s)
    one Spent Nowhere looked more s t = absurd (none_spent more looked t s)
    one Spent Spent looked more s t = (refl, s.1.0 ∙ sym t.1.0)

pub one_found : OneFound
one_found limits bytes effort s t a b =
    let same = one limits bytes effort s.found t.found s.looked t.looked (a.finds, a.keeps_effort) (b.finds, b.keeps_effort) in
    λ i. record { found = same.0 i; looked = same.1 i }
