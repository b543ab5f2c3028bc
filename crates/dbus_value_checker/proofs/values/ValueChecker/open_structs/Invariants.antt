use Rattle.std.proofs.Common.{◌≡◌, ◌≤◌, ◌-◌}
use Rattle.std.specs.Prelude.{slice_index}
use Rattle.dbus_value_checker.specs.Denotations.{Answer, Ready}
use Rattle.dbus_value_checker.proofs.values.ValueChecker.open_structs.Given as goal

abbrev pub invariant-loop-self : goal.invariant-loop-self
invariant-loop-self l = record {
  some : (answer : Answer) × Ready l.self l.at l.until l.zeros answer;
  code : slice_index l.self.text.items l.at ≡ 40;
  goes : (answer : Answer) → Ready l.fn.self l.pos l.stop l.n answer → Ready l.self l.at l.until l.zeros answer;
  less : l.until - l.at ≤ l.stop - l.pos;
}

abbrev pub decreases-loop-self : goal.decreases-loop-self
decreases-loop-self l = l.until - l.at
