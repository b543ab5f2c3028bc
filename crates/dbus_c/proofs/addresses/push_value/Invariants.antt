use Rattle.std.proofs.Common.{◌≡◌, ◌++◌}
use Rattle.dbus_address.specs.Views.{bytes_of}
use Rattle.dbus_c.proofs.addresses.push_value.Given as goal
use Rattle.dbus_room.specs.Rooms.{Gains}

abbrev pub invariant-loop-b : goal.invariant-loop-b
invariant-loop-b l = record {
  so_far : Gains l.initial.room l.yielded l.room;
  left : bytes_of l.fn.value ≡ l.yielded ++ bytes_of l.b-iterator;
}
