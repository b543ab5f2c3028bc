use Rattle.std.proofs.Common.{arith, ◌≡◌, None, Some, sym, ◌∙◌}
use Rattle.dbus_stream.specs.RawReading.{kept}
use Rattle.dbus_stream.proofs.PassSteps.{drops_none, drops_zero, none_inside}
use Rattle.dbus_stream.proofs.RawSteps.{starts, keeps, lending_next, answers_next}
use Rattle.dbus_stream.proofs.raw_reader.RawReader.advance.Goals as goal

pub returns-in-Some-clause-read : goal.returns-in-Some-clause-read
returns-in-Some-clause-read g c = (
  starts g.R.Source.left g.R.Source.calls c.args.self.now,
  λ unstopped. let none : Some c.in-Some.fault ≡ None = sym c.in-Some.is ∙ unstopped in cc,
)

pub invariant_of-self : goal.invariant_of-self
invariant_of-self g c =
    let old = c.args.self.now in
    let read = c.next.ensures.read (kept old) (keeps old) in
    let l = lending_next _ old.reader c.next.new.self c.next.result (read.1 c.in_default.is) in
    record {
      looked_few = c.args.self.now.looked_few;
      lent_before = l.before;
      lent_counted = l.counted;
      lent_alone = l.alone;
      held_counted = l.held;
      dropped_refused = λ some. absurd (drops_none old c.in_default.is some);
      dropped_alone = λ some. absurd (drops_none old c.in_default.is some);
      dropped_counted = (let zero = drops_zero old c.in_default.is in omega (arith, zero));
      dropped_inside = none_inside old.refused _ (drops_zero old c.in_default.is);
    }

pub returns-clause-read : goal.returns-clause-read
returns-clause-read g c =
    answers_next g.R.Source.left g.R.Source.calls c.args.self.now _ c.next.result (c.next.ensures.read (kept c.args.self.now) (keeps c.args.self.now))
