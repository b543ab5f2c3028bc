use Rattle.std.proofs.Common.{ℕ, List}
use Rattle.dbus_value_model.specs.Values.{ValueTrees}
use Rattle.dbus_values.specs.States.{AreLeft}
use Rattle.dbus_view.proofs.Numbered.{Passed}
use Rattle.dbus_view.proofs.arg.arg_at.Given as goal

abbrev pub invariant-loop-number : goal.invariant-loop-number
invariant-loop-number l = record {
  passed : (xs : ValueTrees) (rest : List ℕ) → AreLeft l.fn.values xs rest → Passed l.fn.values xs rest l._number l.left;
}
