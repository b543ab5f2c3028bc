use Rattle.std.proofs.Common.{arith}
use Rattle.dbus_stream.specs.RawReading.{kept}
use Rattle.dbus_stream.proofs.PassSteps.{drops_none, drops_zero, none_inside}
use Rattle.dbus_stream.proofs.RawSteps.{keeps, lending_kept, answers_kept}
use Rattle.dbus_stream.proofs.raw_reader.RawReader.advance_kept.Goals as goal

pub invariant_of-self : goal.invariant_of-self
invariant_of-self g c =
    let old = c.args.self.now in
    let l = lending_kept (kept old) old.reader c.next_kept.new.self c.next_kept.result (c.next_kept.ensures.kept (kept old) (keeps old) c.in_default.is) in
    record {
      looked_few = c.args.self.now.looked_few;
      lent_before = l.before;
      lent_counted = l.counted;
      lent_alone = l.alone;
      held_counted = l.held;
      dropped_refused = λ some. absurd (drops_none old c.in_default.is some);
      dropped_alone = λ some. absurd (drops_none old c.in_default.is some);
      dropped_counted = (let zero = drops_zero old c.in_default.is in omega (arith, zero));
      dropped_inside = none_inside old.refused _ (drops_zero old c.in_default.is);
    }

pub returns-clause-kept : goal.returns-clause-kept
returns-clause-kept g c = λ unstopped.
    let old = c.args.self.now in
    answers_kept old _ c.next_kept.result c.next_kept.ensures.unread.limits (c.next_kept.ensures.kept (kept old) (keeps old) unstopped)
