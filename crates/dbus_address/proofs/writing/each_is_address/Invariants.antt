use Rattle.std.proofs.Common.{drop, map}
use Rattle.std.specs.Prelude.{◌↔◌}
use Rattle.std.specs.List.{AllByRecursion}
use Rattle.dbus_address.specs.Written.{IsAddress}
use Rattle.dbus_address.specs.WrittenViews.{address_parts}
use Rattle.dbus_address.proofs.writing.each_is_address.Given as goal

abbrev pub invariant-loop-address : goal.invariant-loop-address
invariant-loop-address l = AllByRecursion IsAddress (map address_parts l.addresses) ↔ AllByRecursion IsAddress (map address_parts (drop l.address-index l.addresses))
