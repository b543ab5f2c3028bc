use Rattle.std.proofs.Common.{◌≡◌, ℕ, ◌+◌, ◌<◌, ◌≤◌, Bool, true, false, not, eqb, List, ⊎_elim, length, get_or, refl, sym, ap, ◌∙◌, arith, w8}
use Rattle.std.specs.List.{prefix_len}
use Rattle.std.proofs.lemmas.Bool.{cases_lt, eqb-true, eq-eqb, false≢true}
use Rattle.std.proofs.lemmas.Simd.{length-chunk, bitmask_splat, leading_from_mask_l, trailing_mask_l, run_in_chunk_fails, run_in_chunk_stops}
use lib.Count.{count_trailing_zeros}
use lib.Lanes.{chunk}
use Rattle.dbus_value_validator.proofs.brackets.repeats_in_block.Goals as goal

same_of : (b : Bool) → not b ≡ false → b ≡ true
same_of true h = refl
same_of false h = sym h

module _ (types : List ℕ) (at code n : ℕ) (room : at + 32 ≤ length types) (counted : n ≡ prefix_len (λ b. not (not (eqb b code))) (chunk at 32 types)) where
  same : (k : ℕ) → k < n → get_or types (at + k) 0 ≡ code
  same k l = eqb-true _ _ (same_of (eqb (get_or types (at + k) 0) code) (run_in_chunk_fails (λ b. not (eqb b code)) types at 32 n 0 room counted (at + k) (omega arith) (omega arith)))

  some : get_or types at 0 ≡ code → 0 < n
  some first = ⊎_elim (λ l. l) none (cases_lt 0 n)
    where
      none : n ≤ 0 → 0 < n
      none le =
          let here : at + n ≡ at = omega arith in
          let is = ap (λ (i : ℕ). get_or types i 0) here ∙ first in
          let is_not : not (eqb (get_or types (at + n) 0) code) ≡ true = run_in_chunk_stops (λ b. not (eqb b code)) types at 32 n 0 room counted (omega arith) in
          absurd (false≢true (sym (ap not (eq-eqb (get_or types (at + n) 0) code is)) ∙ is_not))

pub returns-then-others-eq0 : goal.returns-then-others-eq0
returns-then-others-eq0 c =
    let block = chunk c.args.at 32 c.args.types.now in
    let long = length-chunk c.args.at 32 c.args.types.now c.requires in
    let others = bitmask_splat w8 (λ a b. not (eqb a b)) block 32 c.args.code long (omega arith) in
    let counted = sym (leading_from_mask_l (λ b. not (eqb b c.args.code)) block (sym others ∙ c.if-others-eq0.true) ∙ long) in
    record { same = same c.args.types.now c.args.at c.args.code 32 c.requires counted; some = some c.args.types.now c.args.at c.args.code 32 c.requires counted }

pub returns-else-others-eq0 : goal.returns-else-others-eq0
returns-else-others-eq0 c =
    let block = chunk c.args.at 32 c.args.types.now in
    let long = length-chunk c.args.at 32 c.args.types.now c.requires in
    let others = bitmask_splat w8 (λ a b. not (eqb a b)) block 32 c.args.code long (omega arith) in
    let counted = ap (count_trailing_zeros 64) others ∙ trailing_mask_l (λ b. not (eqb b c.args.code)) 64 block (omega arith) (omega arith) in
    record { same = same c.args.types.now c.args.at c.args.code _ c.requires counted; some = some c.args.types.now c.args.at c.args.code _ c.requires counted }
