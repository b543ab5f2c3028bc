use Rattle.std.proofs.Common.{◌≡◌, ℕ, List, ◌++◌, map, drop}
use Rattle.dbus_address.specs.Written.{written_address}
use Rattle.dbus_address.specs.WrittenViews.{address_parts, more_addresses_then}
use Rattle.dbus_address.proofs.writing.push_more_addresses.Given as goal

abbrev pub invariant-loop-i : goal.invariant-loop-i
invariant-loop-i g l = (r : List ℕ) → l.text.items ++ more_addresses_then (map written_address (map address_parts (drop l.i l.addresses))) r ≡ l.fn.text.items ++ more_addresses_then (map written_address (map address_parts l.fn.addresses)) r
