use Rattle.std.proofs.Common.{drop}
use Rattle.dbus_value_model.specs.declared.order.Order.{Order}
use Rattle.dbus_message_model.specs.Messages.{MessageTree}
use Rattle.dbus_view.specs.Views.{Views}
use Rattle.dbus_rule.specs.Rules.{condition_pairs}
use Rattle.dbus_match.specs.Matching.{OthersHold}
use Rattle.dbus_match.proofs.view_matching.others_hold.Given as goal

-- if those left hold, then all
abbrev pub invariant-loop-condition : goal.invariant-loop-condition
invariant-loop-condition g l = (order : Order) (m : MessageTree) → Views l.view order m → OthersHold (condition_pairs (drop l.condition-index l.conditions)) m → OthersHold (condition_pairs l.conditions) m
