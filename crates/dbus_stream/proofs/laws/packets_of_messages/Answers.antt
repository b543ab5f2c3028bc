use Rattle.dbus_stream.specs.Gathering.{gathering}
use Rattle.dbus_stream.proofs.PacketSteps.{of_message, unread}
use Rattle.dbus_stream.proofs.RawSteps.{begins}
use Rattle.dbus_stream.proofs.laws.packets_of_messages.Goals as goal

pub returns-clause-begins : goal.returns-clause-begins
returns-clause-begins g c = begins g.R.Source.packets g.R.Source.packet

pub returns-clause-unread : goal.returns-clause-unread
returns-clause-unread g c = λ old new n. unread g.R.Source.packets g.R.Source.packet gathering old.reader old.reader new.reader (λ all h. h) n

pub returns-clause-given : goal.returns-clause-given
returns-clause-given g c = λ r all h inside. of_message g.R.Source.packets g.R.Source.packet all r.reader h inside
