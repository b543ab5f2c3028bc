use Rattle.dbus_c.proofs.RoomBytes.{one_more}
use Rattle.dbus_c.proofs.addresses.push_bytes.Goals as goal

pub loop-b-preserved : goal.loop-b-preserved
loop-b-preserved c = one_more c.args.bytes.now c.loop-b.b-index c.loop-b-test.true c.loop-b.invariant c.push_byte.ensures
