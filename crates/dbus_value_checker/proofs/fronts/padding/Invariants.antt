use Rattle.std.proofs.Common.{◌≡◌, ◌≤◌, length, take, replicate}
use Rattle.dbus_value_checker.proofs.fronts.padding.Given as goal

abbrev pub invariant-loop-i : goal.invariant-loop-i
invariant-loop-i l = record {
  there : l.i ≤ length l.bytes;
  zero : take l.i l.bytes ≡ replicate l.i 0;
}
