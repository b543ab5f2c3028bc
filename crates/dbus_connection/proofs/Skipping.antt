-- The bytes behind those that are skipped, out of a piece and out of all.
use Rattle.std.proofs.Common.{◌≡◌, ◌∙◌, ℕ, ◌+◌, ◌-◌, List, min, take, drop, sym, ap, inl, inr, arith}
use Rattle.std.proofs.Math.ListN.{drop_of_length-le}
use Rattle.std.proofs.lemmas.Bool.{cases_lt}
use Rattle.std.proofs.lemmas.List.{drop-drop, drop-take, length-take}

-- they are the first of those
pub front : (skip handed : ℕ) (bytes : List ℕ)
    → drop skip (take handed bytes) ≡ take (handed - skip) (drop skip bytes)
front skip handed bytes = elim (cases_lt handed skip) [
  | inl few ↦
      let none : handed - skip ≡ 0 = omega arith in
      drop_of_length-le (take handed bytes) (omega (arith, length-take handed bytes)) ∙ ap (λ (k : ℕ). take k (drop skip bytes)) (sym none)
  | inr enough ↦
      let all : handed ≡ skip + (handed - skip) = omega arith in
      ap (λ (k : ℕ). drop skip (take k bytes)) all ∙ drop-take skip (handed - skip) bytes
]

-- what is left when a call is handed so many, of which it takes some behind those that it skips
pub behind : (skip handed more taken : ℕ) (bytes : List ℕ) → taken ≡ min skip handed + more
    → drop (skip - handed) (drop taken bytes) ≡ drop more (drop skip bytes)
behind skip handed more taken bytes is =
    let n : taken + (skip - handed) ≡ skip + more = omega (arith, is) in
    drop-drop (skip - handed) taken bytes ∙ ap (λ (k : ℕ). drop k bytes) n ∙ sym (drop-drop more skip bytes)
