-- The order of handles, by which a set keeps its rules.
use Rattle.std.specs.declared.cmp.Ordering.{Ordering}
use Rattle.std.specs.Ordering.{nat_cmp, ordering_then}
use Rattle.dbus_rule_set.specs.declared.handle.RuleHandle.{RuleHandle}

abbrev pub handle_cmp : RuleHandle → RuleHandle → Ordering
handle_cmp a b = ordering_then (nat_cmp a.kind b.kind) (ordering_then (nat_cmp a.hash b.hash) (nat_cmp a.number b.number))
