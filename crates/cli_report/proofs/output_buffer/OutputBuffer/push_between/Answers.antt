use Rattle.std.proofs.Common.{◌≡◌, ℕ, ◌+◌, ◌≤◌, List, ◌++◌, length, take, refl, ap, ◌∙◌, arith, append_assoc, length-append}
use Rattle.std.proofs.lemmas.List.{length-take}
use Rattle.std.proofs.lemmas.Slice.{take-put_mid}
use borrow.Rule.Slice.PartMut.{put_mid}
use Rattle.cli_report.specs.Gathering.{gathered_bytes}
use Rattle.cli_report.proofs.output_buffer.OutputBuffer.push_between.Goals as goal

-- as many are there as are taken
taken_of : (n : ℕ) (xs ys : List ℕ) → take n xs ≡ ys → length ys ≡ n → n ≤ length xs
taken_of n xs ys e long = omega (arith, ap length e, length-take n xs, long)

put : (a k n : ℕ) (xs those ys zs : List ℕ) → those ≡ ys → take a xs ≡ zs → length zs ≡ a → n ≡ a + length ys
    → take n (put_mid a k xs those) ≡ zs ++ ys
put a k n xs those ys zs same front long e =
    take-put_mid a k xs those n (omega (arith, e, ap length same)) (taken_of a xs zs front long)
    ∙ (ap (λ (l : List ℕ). l ++ those) front ∙ ap (λ (l : List ℕ). zs ++ l) same)

pub returns-clause-took : goal.returns-clause-took
unfolding gathered_bytes
returns-clause-took c _ =
    let xs = c.args.self.now.bytes in
    let start = c.args.self.now.len in
    let before = c.args.before.now in
    let bytes = c.args.bytes.now in
    let after = c.args.after.now in
    let held : length (take start xs) ≡ start = omega (arith, length-take start xs) in
    let first = put start _ (start + length before) xs _ before (take start xs) c.copy_bytes.ensures refl held refl in
    let second = put (start + length before) _ (start + length before + length bytes) _ _ bytes _ c.copy_bytes-2.ensures first
    (omega (arith, length-append (take start xs) before, held)) refl in
    let third = put (start + length before + length bytes) _ (start + length before + length bytes + length after) _ _ after _
    c.copy_bytes-3.ensures second
    (omega (arith, length-append (take start xs ++ before) bytes, length-append (take start xs) before, held)) refl in
    third ∙ simp append_assoc
