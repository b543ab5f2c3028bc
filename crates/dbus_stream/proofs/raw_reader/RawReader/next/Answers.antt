use Rattle.dbus_stream.specs.Gathering.{gathering}
use Rattle.dbus_stream.proofs.PacketSteps.{unread}
use Rattle.dbus_stream.proofs.RawSteps.{gives_copy}
use Rattle.dbus_stream.proofs.raw_reader.RawReader.next.Goals as goal

pub returns-in-Ok-Some-clause-read : goal.returns-in-Ok-Some-clause-read
returns-in-Ok-Some-clause-read g c =
    gives_copy g.R.Source.left g.R.Source.calls c.in-Ok-Some._validated c.args.self.now c.advance.new.self c.give.new.self c.give.result
    (rw c.in-Ok-Some.field-0-is at c.in-Ok-Some.ensures.read) c.give.ensures.gives c.give.ensures.unread

pub returns-in-Ok-None-clause-read : goal.returns-in-Ok-None-clause-read
returns-in-Ok-None-clause-read g c = rw c.in-Ok-None.field-0-is at c.in-Ok-None.ensures.read

pub returns-in-Ok-Some-clause-packets : goal.returns-in-Ok-Some-clause-packets
returns-in-Ok-Some-clause-packets g c =
    unread g.R.Source.packets g.R.Source.packet gathering c.args.self.now.reader c.advance.new.self.reader c.give.new.self.reader c.advance.ensures.packets c.give.ensures.unread
