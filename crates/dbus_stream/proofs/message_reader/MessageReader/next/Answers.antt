use Rattle.std.proofs.Common.{◌≡◌, None, Some, sym, ◌∙◌}
use Rattle.dbus_stream.specs.CutterTaking.{cutting}
use Rattle.dbus_stream.specs.MessageReaders.{kept}
use Rattle.dbus_stream.proofs.MessageSteps.{keeps, stands_next}
use Rattle.dbus_stream.proofs.NextSteps.{starts}
use Rattle.dbus_stream.proofs.message_reader.MessageReader.next.Goals as goal

pub returns-in-Some-clause-read : goal.returns-in-Some-clause-read
returns-in-Some-clause-read g c = (
  starts (cutting g.row.A.Denot) g.R.Source.left g.R.Source.calls (kept c.args.self.now) c.args.self.now.reader,
  λ unstopped. let none : Some c.in-Some.fault ≡ None = sym c.in-Some.is ∙ unstopped in cc,
)

pub invariant_of-self : goal.invariant_of-self
invariant_of-self g c =
    let old = c.args.self.now in
    let read = c.next.ensures.read (kept old) (keeps old c.in_default.is) in
    let stands = stands_next _ old.reader c.next.new.self c.next.result (read.1 c.in_default.is) in
    record { unfaulted = λ open_. (stands open_).unfaulted; held_counted = λ open_. (stands open_).held }

pub returns-clause-read : goal.returns-clause-read
returns-clause-read g c = c.next.ensures.read (kept c.args.self.now) (keeps c.args.self.now c.in_default.is)
