use Rattle.dbus_resync.proofs.Steps.{looks_longer, looks_short}
use Rattle.dbus_resync.proofs.search.size_there.Goals as goal

pub returns-else-size-bytes-clause-looks : goal.returns-else-size-bytes-clause-looks
returns-else-size-bytes-clause-looks c =
    looks_longer c.args.limits c.args.bytes.now c.in-Ok-Some.size (rw c.in-Ok-Some.field-0-is at c.in-Ok-Some.ensures.stated) c.if-size-bytes.false

pub returns-in-Ok-None-clause-looks : goal.returns-in-Ok-None-clause-looks
returns-in-Ok-None-clause-looks c =
    let stated = rw c.in-Ok-None.field-0-is at c.in-Ok-None.ensures.stated in
    looks_short c.args.limits c.args.bytes.now stated.0
