use Rattle.std.proofs.Common.{◌≡◌, drop}
use Rattle.dbus_address.specs.declared.scan.AddressState.TheVariants.{Start}
use Rattle.dbus_address.specs.Scans.{scan}
use Rattle.dbus_address.proofs.parse.break_in.Given as goal

abbrev pub invariant-loop-i : goal.invariant-loop-i
invariant-loop-i l = scan l.state l.i (drop l.i l.text) ≡ scan Start 0 l.fn.text
