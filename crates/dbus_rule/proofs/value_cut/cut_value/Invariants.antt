use Rattle.std.proofs.Common.{◌≡◌, [], drop}
use Rattle.dbus_rule.specs.declared.value_cut.Mode.TheVariants.{Outside}
use Rattle.dbus_rule.specs.Values.{scan}
use Rattle.dbus_rule.proofs.value_cut.cut_value.Given as goal

-- what is left gives the reading of the whole
abbrev pub invariant-loop-i : goal.invariant-loop-i
invariant-loop-i g l = scan l.mode l.i l.value.items (drop l.i l.text) ≡ scan Outside l.fn.from [] (drop l.fn.from l.fn.text)
