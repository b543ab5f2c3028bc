-- A place is in one header field at most.
use Rattle.std.proofs.Common.{◌≡◌, ℕ, zero, suc, ◌+◌, ◌<◌, ◌≤◌, List, drop, true, inl, inr, sym, subst, ◌∙◌, arith, length}
use Rattle.std.proofs.lemmas.Bool.{cases_lt}
use Rattle.dbus_texts.specs.Types.{TypeTree, IsShaped}
use Rattle.dbus_value_model.specs.Bytes.{gap_to}
use Rattle.dbus_value_model.specs.Bounds.{bounds_of}
use Rattle.dbus_value_model.specs.Reading as reading
use Rattle.dbus_value_model.specs.Specification.{specification}
use Rattle.dbus_value_model.specs.Spelling.{Spelled}
use Rattle.dbus_value_model.specs.ValueItems as faults
use Rattle.dbus_value_model.specs.Values.{ValueTree}
use Rattle.dbus_value_model.specs.declared.limits.TheConstants.{DEPTH_LIMIT}
use Rattle.dbus_value_laws.proofs.ValueItemLaws.{Agrees-value, agreed_value, value_inside}
use Rattle.dbus_explain.specs.Places.{IsIn, IsInField, Pass, Passes, field_type, order_of}

module _ (bytes : List ℕ) (at : ℕ) (t : TypeTree) (shaped : IsShaped true t) where
  -- one value is at a place
  pub spelled_one : (p q r : ℕ) (v w : ValueTree) → Spelled (bounds_of specification) (order_of bytes) DEPTH_LIMIT at t p (drop p bytes) v q (drop q bytes)
      → Spelled (bounds_of specification) (order_of bytes) DEPTH_LIMIT at t p (drop p bytes) w r (drop r bytes) → (v ≡ w) × (q ≡ r)
  spelled_one p q r v w a b =
      let bounds = bounds_of specification in
      let order = order_of bytes in
      let s = drop p bytes in
      let one = agreed_value (faults.value bounds order DEPTH_LIMIT at t) (reading.value bounds order DEPTH_LIMIT at t) (Agrees-value bounds order DEPTH_LIMIT at true t shaped) p s v q (drop q bytes) w r (drop r bytes)
      ((value_inside bounds order DEPTH_LIMIT at t p s v q (drop q bytes)).1 a) ((value_inside bounds order DEPTH_LIMIT at t p s w r (drop r bytes)).1 b) in
      (one.0, one.1)

  -- it ends at one place
  pub passes_one : (p q r : ℕ) → Passes bytes at t p q → Passes bytes at t p r → q ≡ r
  passes_one p q r (v, a) (w, b) = (spelled_one p q r v w a b).1

  pub pass_one : (n p q r : ℕ) → Pass bytes at t n p q → Pass bytes at t n p r → q ≡ r
  pass_one zero p q r a b = a ∙ sym b
  pass_one (suc n) p q r (x, a, c) (y, b, d) =
      let same = pass_one n p x y a b in
      passes_one y q r (subst (λ (k : ℕ). Passes bytes at t k q) same c) d

  -- none is passed behind one that is not
  pub pass_no : (n m p q r : ℕ) → n < m → Pass bytes at t n p q → IsIn bytes at t q → Pass bytes at t m p r → ⊥
  pass_no n zero p q r less a is b = omega (arith, less)
  pass_no n (suc m) p q r less a is (y, b, d) =
      elim (cases_lt n m) [
        | inl below ↦ pass_no n m p q y below a is b
        | inr enough ↦
            let e : n ≡ m = omega (arith, less, enough) in
            let same = pass_one m p q y (subst (λ (k : ℕ). Pass bytes at t k p q) e a) b in
            is r (subst (λ (k : ℕ). Passes bytes at t k r) (sym same) d)
      ]

  pub count_one : (n m p q r : ℕ) → Pass bytes at t n p q → IsIn bytes at t q → Pass bytes at t m p r → IsIn bytes at t r → n ≡ m
  count_one n m p q r a is b in_it =
      elim (cases_lt n m) [
        | inl less ↦ absurd (pass_no n m p q r less a is b)
        | inr most ↦ elim (cases_lt m n) [
          | inl more ↦ absurd (pass_no m n p r q more b in_it a)
          | inr least ↦ omega (arith, most, least)
        ]
      ]

  pub one_place : (n m p q r : ℕ) → Pass bytes at t n p q → IsIn bytes at t q → Pass bytes at t m p r → IsIn bytes at t r → q ≡ r
  one_place n m p q r a is b in_it =
      let e = count_one n m p q r a is b in_it in
      pass_one m p q r (subst (λ (k : ℕ). Pass bytes at t k p q) e a) b

-- the place is in no field, if the code of the one that it would be in is past it or not read
module _ (bytes : List ℕ) (at n p : ℕ) (passed : Pass bytes at field_type n 16 p) (is_in : IsIn bytes at field_type p) where
  pub same_field : (q code : ℕ) → IsInField bytes at q code → p ≡ q
  same_field q code h = one_place bytes at field_type (tt, (tt, tt)) n h.n 16 p q passed is_in h.before h.is_in

  pub field_past : at < p + gap_to 8 p → (q code : ℕ) → IsInField bytes at q code → ⊥
  field_past past q code h = let reached = subst (λ (k : ℕ). k + gap_to 8 k ≤ at) (sym (same_field q code h)) h.reached in omega (arith, past, reached)

  pub field_unread : length bytes ≤ p + gap_to 8 p → (q code : ℕ) → IsInField bytes at q code → ⊥
  field_unread behind q code h = let read = subst (λ (k : ℕ). k + gap_to 8 k < length bytes) (sym (same_field q code h)) h.read in omega (arith, behind, read)
