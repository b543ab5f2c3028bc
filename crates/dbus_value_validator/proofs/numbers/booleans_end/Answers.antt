use Rattle.std.proofs.Common.{arith}
use Rattle.dbus_value_validator.proofs.NumberArrays.{stays_aligned, words_more}
use Rattle.dbus_value_validator.proofs.numbers.booleans_end.Goals as goal

pub loop-place-init : goal.loop-place-init
loop-place-init c = record { begun = omega arith; within = c.requires.at_most; aligned = c.requires.begins; few = λ p from h le. absurd (omega (arith, from, le)) }

pub loop-place-preserved : goal.loop-place-preserved
loop-place-preserved c =
    let l = c.loop-place in
    record {
      begun = omega arith;
      within = omega arith;
      aligned = stays_aligned 4 l.place l.invariant.aligned;
      few = words_more c.args.order c.args.bytes.now c.args.at l.place l.invariant.aligned l.invariant.few (omega arith);
    }
