use Rattle.std.proofs.Common.{◌≤◌, ◌*◌, ◌+◌, ◌-◌, length, take}
use Rattle.dbus_check.specs.Checks.{Holds}
use Rattle.dbus_check.specs.Progress.{To, after_bytes}
use Rattle.dbus_check.proofs.pieces.Pieces.take.Given as goal

abbrev pub invariant-loop-n : goal.invariant-loop-n
invariant-loop-n l = record {
  within : l.n ≤ length l.piece;
  some : (to : To) × Holds l.self to;
  goes : (to : To) → Holds l.fn.self to → Holds l.self (after_bytes to (take l.n l.piece));
}

abbrev pub decreases-loop-n : goal.decreases-loop-n
decreases-loop-n l = 2 * (length l.piece - l.n) + length l.self.kept.items
