use Rattle.dbus_header.proofs.OutcomeLaws.{nothing_partial}
use Rattle.dbus_stream.proofs.lengths.Lengths.within.Goals as goal

pub returns-clause-nothing : goal.returns-clause-nothing
returns-clause-nothing c = (c.within.ensures.stands, nothing_partial c.args.limits)
