use Rattle.std.proofs.Common.{length}
use Rattle.dbus_value_checker.specs.Denotations.{Answer, Goes}
use Rattle.dbus_value_checker.proofs.values.ValueChecker.next.Given as goal

abbrev pub invariant-loop-self : goal.invariant-loop-self
invariant-loop-self l = record {
  some : (answer : Answer) × Goes l.self answer;
  goes : (answer : Answer) → Goes l.fn.self answer → Goes l.self answer;
}

abbrev pub decreases-loop-self : goal.decreases-loop-self
decreases-loop-self l = length l.self.frames.items
