use Rattle.std.proofs.Common.{◌≡◌, ℕ, ◌+◌, ◌++◌, take, drop, reverse, refl, sym, ap, subst, ◌∙◌, arith}
use Rattle.dbus_value_model.specs.Bytes.{gap_to}
use Rattle.dbus_value_model.specs.Spelling.{spellings}
use Rattle.dbus_swap.specs.Byteswapping.{other}
use Rattle.dbus_swap.specs.ByteswapLaws.{nothing_put}
use Rattle.dbus_swap.proofs.NumberRuns.{NumbersByteswapped, bytes_same, none_byteswapped, number_byteswapped, all_byteswapped}
use Rattle.dbus_swap.proofs.numbers.byteswap_numbers.Goals as goal

pub returns-then-size-eq1 : goal.returns-then-size-eq1
returns-then-size-eq1 c = λ order k xs wide all aligned ends.
    let at = c.args.at in
    nothing_put at (spellings order at xs) (spellings (other order) at xs) c.args.out.now c.args.out.now (bytes_same order k at xs (omega (arith, wide, c.if-size-eq1.true)) all) refl

pub loop-place-init : goal.loop-place-init
loop-place-init c = record {
  at_most = c.requires.at_most;
  as_long = refl;
  byteswapped = λ order k xs wide all aligned ends. none_byteswapped c.args.out.now all (subst (λ (w : ℕ). gap_to w c.args.at ≡ 0) (sym wide) aligned) ends;
}

pub loop-place-preserved : goal.loop-place-preserved
loop-place-preserved c =
    let place = c.loop-place.place in
    let out = c.loop-place.out in
    let step = c.from-step.ensures in
    record {
      at_most = omega (arith, c.loop-place-test.true);
      as_long = omega (arith, c.byteswap_number.auto.out, c.loop-place.invariant.as_long);
      byteswapped = λ order k xs wide all aligned ends.
          let reversed = subst (λ (w : ℕ). c.byteswap_number.new.out ≡ take place out ++ (reverse (take w (drop place out)) ++ drop (place + w) out)) (sym wide) (c.byteswap_number.ensures k wide) in
          let next = number_byteswapped (c.loop-place.invariant.byteswapped order k xs wide all aligned ends) c.byteswap_number.new.out (omega (arith, c.loop-place-test.true, c.requires.some, step)) reversed in
          subst (λ (q : ℕ). NumbersByteswapped order k c.args.at c.args.end xs c.args.out.now q c.byteswap_number.new.out) (ap (λ (w : ℕ). place + w) (wide ∙ sym step)) next;
    }

pub returns : goal.returns
returns c = λ order k xs wide all aligned ends. all_byteswapped (c.loop-place.invariant.byteswapped order k xs wide all aligned ends) (omega (arith, wide, c.from-step.ensures, c.loop-place-test.false))
