use Rattle.std.proofs.Common.{◌≡◌, ◌≤◌}
use Rattle.dbus_address.specs.Flaws.{is_guid, is_guid_after}
use Rattle.dbus_address.specs.Views.{bytes_of}
use Rattle.dbus_address.proofs.unsound.is_guid.Given as goal

abbrev pub invariant-loop-b : goal.invariant-loop-b
invariant-loop-b l = record { within : l.count ≤ 32; rest : is_guid_after l.count (bytes_of l.b-iterator) ≡ is_guid (bytes_of l.fn.value) }
