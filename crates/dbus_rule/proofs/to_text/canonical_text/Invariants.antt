use Rattle.std.proofs.Common.{◌≡◌, string_bytes, take}
use Rattle.dbus_rule.specs.Rules.{canonical, condition_pairs}
use Rattle.dbus_rule.proofs.to_text.canonical_text.Given as goal

-- the text of the conditions so far
abbrev pub invariant-loop-i : goal.invariant-loop-i
invariant-loop-i g l = string_bytes l.text ≡ canonical (condition_pairs (take l.i l.conditions))
