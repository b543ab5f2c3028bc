use Rattle.std.proofs.Common.{◌≡◌, drop}
use Rattle.dbus_rule.specs.PairReadings.{name_cut}
use Rattle.dbus_rule.proofs.pair.find_equals.Given as goal

-- what is left is cut where the whole is
abbrev pub invariant-loop-i : goal.invariant-loop-i
invariant-loop-i l = name_cut l.i (drop l.i l.text) ≡ name_cut l.fn.from (drop l.fn.from l.fn.text)
