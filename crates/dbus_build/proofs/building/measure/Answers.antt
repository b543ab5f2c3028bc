use Rattle.std.proofs.Common.{arith}
use Rattle.dbus_build.proofs.Built.{fields_short, body_short, too_long, built}
use Rattle.dbus_build.proofs.building.measure.Goals as goal

pub message_end-requires-clause-fields_signed : goal.message_end-requires-clause-fields_signed
message_end-requires-clause-fields_signed g c = fields_short c.args.limits c.args.parts.now c.requires.passed

pub message_end-requires-clause-body_signed : goal.message_end-requires-clause-body_signed
message_end-requires-clause-body_signed g c = body_short c.args.limits c.args.parts.now c.requires.passed

pub returns-then-end-from : goal.returns-then-end-from
returns-then-end-from g c =
    ((c.requires.passed, c.in-Some.ensures.0), too_long c.args.limits c.args.parts.now c.in-Some.end c.in-Some.ensures (omega arith))

pub returns-in-None : goal.returns-in-None
returns-in-None g c = (c.requires.passed, c.in-None.ensures)

pub returns-else-end-from : goal.returns-else-end-from
returns-else-end-from g c =
    built c.args.limits c.args.parts.now c.in-Some.end c.in-Some.ensures (omega arith) c.requires.passed c.requires.ranged
