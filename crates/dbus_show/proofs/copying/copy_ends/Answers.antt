use Rattle.std.proofs.Common.{◌≡◌, ℕ, ◌+◌, ◌-◌, ◌≤◌, List, ◌++◌, length, take, drop, sym, ap, ◌∙◌, arith}
use Rattle.std.proofs.lemmas.List.{take-append-drop, take-take, take_all, take_rest}
use Rattle.std.proofs.lemmas.Simd.{length-chunk, length-put_chunk, take_more_put_chunk}
use lib.Lanes.{chunk, put_chunk}
use Rattle.dbus_show.proofs.copying.copy_ends.Goals as goal

-- the first n bytes, and over them the last n, which begin within the first or right after them
module _ (to from : List ℕ) (n last : ℕ) (same : length to ≡ length from) (all : last + n ≡ length from) (meet : last ≤ n) where
  abbrev first : List ℕ
  first = put_chunk 0 to (chunk 0 n from)

  long : length first ≡ length from
  long = length-put_chunk 0 to (chunk 0 n from) ∙ same

  begins : take last first ≡ take last from
  begins =
      let sized : length (chunk 0 n from) ≡ n = length-chunk 0 n from (omega (arith, all)) in
      let whole : take n first ≡ chunk 0 n from = take_more_put_chunk 0 to (chunk 0 n from) n (omega (arith, sized)) (omega (arith, all, same)) in
      sym (take-take last n first meet) ∙ (ap (λ (l : List ℕ). take last l) whole ∙ take-take last n from meet)

  overlapping : put_chunk last first (chunk last n from) ≡ from
  overlapping =
      let sized : length (chunk last n from) ≡ n = length-chunk last n from (omega (arith, all)) in
      let stored : take (last + n) (put_chunk last first (chunk last n from)) ≡ take last first ++ chunk last n from = take_more_put_chunk last first (chunk last n from) (last + n) (omega (arith, sized)) (omega (arith, all, long)) in
      let none = take_all (last + n) (put_chunk last first (chunk last n from)) (omega (arith, length-put_chunk last first (chunk last n from), long, all)) in
      let rest : chunk last n from ≡ drop last from = ap (λ k. take k (drop last from)) (omega (arith, all)) ∙ take_rest from last in
      sym none ∙ (stored ∙ (ap (λ (l : List ℕ). l ++ chunk last n from) begins ∙ (ap (λ (l : List ℕ). take last from ++ l) rest ∙ take-append-drop last from)))

pub returns : goal.returns
returns g c = overlapping c.args.to.now c.args.from.now g.row.N (length c.args.from.now - g.row.N) c.requires.same (omega (arith, c.requires.some)) (omega (arith, c.requires.few))
