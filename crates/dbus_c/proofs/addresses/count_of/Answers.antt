use Rattle.std.proofs.Common.{rules, ◌≡◌, length, arith}
use Rattle.dbus_address.specs.Views.{addresses_of}
use Rattle.dbus_c.proofs.addresses.count_of.Goals as goal

pub returns : goal.returns
returns c =
    let none : length (addresses_of c.loop-address._address-iterator) ≡ 0 = search rules in
    omega (arith, none, c.loop-address.invariant.rest, c.loop-address.invariant.small)
