use Rattle.std.proofs.Common.{◌≤◌, ◌*◌, ◌+◌, ◌-◌, length, take, drop}
use Rattle.dbus_value_checker.specs.Denotations.{Answer, Denotes, after_piece}
use Rattle.dbus_value_checker.specs.Moves.{wide}
use Rattle.dbus_value_checker.proofs.values.ValueChecker.run_after.Given as goal

abbrev pub invariant-loop-self : goal.invariant-loop-self
invariant-loop-self l = record {
  within : l.start + l.n ≤ length l.bytes;
  there : l.n ≤ length (drop l.start l.bytes);
  some : (answer : Answer) × Denotes l.self answer;
  goes : (answer : Answer) → Denotes l.fn.self answer → Denotes l.self (after_piece answer (take l.n (drop l.start l.bytes)));
}

abbrev pub decreases-loop-self : goal.decreases-loop-self
decreases-loop-self l = (length l.bytes - (l.start + l.n)) * 16641 + wide l.self.doing
