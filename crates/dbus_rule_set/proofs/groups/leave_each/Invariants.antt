use Rattle.std.proofs.Common.{◌≡◌, ℕ, List, not, ◌&&◌, string_bytes}
use Rattle.std.specs.BTreeMap.{IsOrdered}
use Rattle.std.specs.BTreeSet.{contains_text}
use Rattle.std.specs.Str.{bytes_eq}
use Rattle.std.specs.String.{string_cmp}
use Rattle.dbus_rule_set.specs.Groups.{has}
use Rattle.dbus_rule_set.proofs.GroupedTexts.{any_is}
use Rattle.dbus_rule_set.proofs.groups.leave_each.Given as goal

-- once those left have lost it too, all have
abbrev pub invariant-loop-first : goal.invariant-loop-first
invariant-loop-first l =
    ((n u : List ℕ) → (not (any_is n l.first-iterator && bytes_eq l.second u) && has l.groups n u) ≡ (not (contains_text l.firsts n && bytes_eq l.second u) && has l.fn.groups n u))
    × (IsOrdered string_cmp l.fn.groups → IsOrdered string_cmp l.groups)
