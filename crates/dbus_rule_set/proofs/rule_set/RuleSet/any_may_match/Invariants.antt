use Rattle.std.proofs.Common.{option_map}
use Rattle.dbus_value_model.specs.declared.order.Order.{Order}
use Rattle.dbus_message_model.specs.Messages.{MessageTree}
use Rattle.dbus_view.specs.Views.{Views}
use Rattle.dbus_rule_set.specs.Held.{EntryMayMatch, HoldsOfAny, held}
use Rattle.dbus_rule_set.proofs.rule_set.RuleSet.any_may_match.Given as goal

-- if any rule may match, then one of those left
abbrev pub invariant-loop-handle : goal.invariant-loop-handle
invariant-loop-handle g l = (order : Order) (m : MessageTree) → Views l.view order m →
    let P = EntryMayMatch l.self.as_bus m (option_map (λ s. s.now) l.sender) l.owners in
    (HoldsOfAny P l._handle-iterator → HoldsOfAny P (held l.self)) × (HoldsOfAny P (held l.self) → HoldsOfAny P l._handle-iterator)
