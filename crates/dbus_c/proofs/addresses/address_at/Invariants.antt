use Rattle.std.proofs.Common.{◌≡◌}
use Rattle.dbus_address.specs.Views.{addresses_of}
use Rattle.dbus_c.specs.Addresses.{address_at}
use Rattle.dbus_c.proofs.addresses.address_at.Given as goal

abbrev pub invariant-loop-address : goal.invariant-loop-address
invariant-loop-address l = address_at l.left (addresses_of l.address-iterator) ≡ address_at l.number (addresses_of l.fn.addresses)
