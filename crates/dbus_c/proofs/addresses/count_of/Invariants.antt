use Rattle.std.proofs.Common.{◌≡◌, ◌+◌, ◌<◌, ◌^◌, length}
use Rattle.dbus_address.specs.Views.{addresses_of}
use Rattle.dbus_c.proofs.addresses.count_of.Given as goal
use Rattle.dbus_room.specs.Counting.{counted}

abbrev pub invariant-loop-address : goal.invariant-loop-address
invariant-loop-address l = record {
  small : l.count < 2 ^ 64;
  rest : counted (l.count + length (addresses_of l._address-iterator)) ≡ counted (length (addresses_of l.fn.addresses));
}
