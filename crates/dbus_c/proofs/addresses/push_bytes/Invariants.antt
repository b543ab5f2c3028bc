use Rattle.std.proofs.Common.{take}
use Rattle.dbus_c.proofs.addresses.push_bytes.Given as goal
use Rattle.dbus_room.specs.Rooms.{Gains}

abbrev pub invariant-loop-b : goal.invariant-loop-b
invariant-loop-b l = Gains l.initial.room (take l.b-index l.bytes) l.room
