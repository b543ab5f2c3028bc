use Rattle.std.proofs.Common.{◌≤◌, ◌*◌, ◌+◌, ◌-◌, length, take}
use Rattle.dbus_check.specs.Progress.{To, Denotes, after_bytes, rank}
use Rattle.dbus_check.proofs.progress.Progress.run.Given as goal

abbrev pub invariant-loop-self : goal.invariant-loop-self
invariant-loop-self l = record {
  within : l.n ≤ length l.bytes;
  some : (to : To) × Denotes l.self to;
  goes : (to : To) → Denotes l.fn.self to → Denotes l.self (after_bytes to (take l.n l.bytes));
}

abbrev pub decreases-loop-self : goal.decreases-loop-self
decreases-loop-self l = (length l.bytes - l.n) * 8 + rank l.self.stage
