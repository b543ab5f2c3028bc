use Rattle.std.proofs.Common.{◌≡◌, ℕ, ◌-◌, ◌+◌, ◌%◌, ◌^◌, ◌⊎◌, inl, inr, bit_and, ◌∙◌, arith}
use Rattle.std.proofs.lemmas.Bool.{cases_lt}
use Rattle.std.proofs.lemmas.Nat.{and_mask}
use Rattle.dbus_value_model.specs.Bytes.{gap_to}
use Rattle.dbus_value_model.proofs.padding.padding_length.Goals as goal

-- 2^64 is a multiple of these boundaries
masked : (a n m o : ℕ) → (n + o) % 18446744073709551616 ≡ 0 → m ≡ a - 1 → (a ≡ 1) ⊎ ((a ≡ 2) ⊎ ((a ≡ 4) ⊎ (a ≡ 8))) → bit_and n m ≡ gap_to a o
unfolding gap_to
masked a n m o over less (inl e) = let z : m ≡ 2 ^ 0 - 1 = omega arith in rw (z, e) (and_mask n 0 ∙ omega arith)
masked a n m o over less (inr (inl e)) = let z : m ≡ 2 ^ 1 - 1 = omega arith in rw (z, e) (and_mask n 1 ∙ omega arith)
masked a n m o over less (inr (inr (inl e))) = let z : m ≡ 2 ^ 2 - 1 = omega arith in rw (z, e) (and_mask n 2 ∙ omega arith)
masked a n m o over less (inr (inr (inr e))) = let z : m ≡ 2 ^ 3 - 1 = omega arith in rw (z, e) (and_mask n 3 ∙ omega arith)

pub returns-in-1-clause-exact : goal.returns-in-1-clause-exact
returns-in-1-clause-exact c =
    let a = c.args.alignment in
    masked a c.wrapping_neg.result c.from.result c.args.at c.wrapping_neg.ensures c.from.ensures (elim (cases_lt a 2) [
      | inl l ↦ inl (grind arith)
      | inr l ↦ elim (cases_lt a 4) [ inl k ↦ inr (inl (grind arith)) | inr k ↦ elim (cases_lt a 8) [ inl j ↦ inr (inr (inl (grind arith))) | inr j ↦ inr (inr (inr (grind arith))) ] ]
    ])
