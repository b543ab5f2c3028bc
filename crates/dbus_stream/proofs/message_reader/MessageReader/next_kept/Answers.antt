use Rattle.dbus_stream.specs.MessageReaders.{kept}
use Rattle.dbus_stream.proofs.MessageSteps.{keeps, stands_kept}
use Rattle.dbus_stream.proofs.message_reader.MessageReader.next_kept.Goals as goal

pub invariant_of-self : goal.invariant_of-self
invariant_of-self g c =
    let old = c.args.self.now in
    let stands = stands_kept _ old.reader c.next_kept.new.self c.next_kept.result (c.next_kept.ensures.kept (kept old) (keeps old c.in_default.is) c.in_default.is) in
    record { unfaulted = λ open_. (stands open_).unfaulted; held_counted = λ open_. (stands open_).held }

pub returns-clause-kept : goal.returns-clause-kept
returns-clause-kept g c = λ unstopped. c.next_kept.ensures.kept (kept c.args.self.now) (keeps c.args.self.now unstopped) unstopped
