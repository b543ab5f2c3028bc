use Rattle.std.proofs.Common.{◌≡◌, ◌≤◌, ◌<◌, ◌-◌, ◌+◌, take, drop, true}
use Rattle.dbus_value_checker.specs.Denotations.{Answer, Denotes, Goes, after_piece}
use Rattle.dbus_value_checker.proofs.values.ValueChecker.whole.Given as goal

abbrev pub invariant-loop-after : goal.invariant-loop-after
invariant-loop-after l = record {
  low : l.before ≤ l.after;
  high : l.after ≤ l.end;
  goes : (answer : Answer) → Denotes l.fn.self answer → 0 < l.after - l.before →
      (l.fn.self.inner.array ≡ true) × Goes (record l.fn.self { offset = l.fn.self.offset + (l.after - l.before) }) (after_piece answer (take (l.after - l.before) (drop l.n l.bytes)));
}

abbrev pub decreases-loop-after : goal.decreases-loop-after
decreases-loop-after l = l.end - l.after
