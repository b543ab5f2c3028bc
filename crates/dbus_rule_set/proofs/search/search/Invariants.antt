use Rattle.std.proofs.Common.{◌≡◌, take, length}
use Rattle.dbus_value_model.specs.declared.order.Order.{Order}
use Rattle.dbus_message_model.specs.Messages.{MessageTree}
use Rattle.dbus_view.specs.Views.{Views}
use Rattle.dbus_rule_set.specs.Held.{Collects, EntryMatches}
use Rattle.dbus_rule_set.proofs.Parted.{Below}
use Rattle.dbus_rule_set.proofs.search.search.Given as goal

-- those of the kinds so far are found
abbrev pub invariant-loop-kind : goal.invariant-loop-kind
invariant-loop-kind g l =
    let gathered = g.V.RuleVisitor.gathered in
    let os = l.asked.owners.now in
    let as_bus = l.asked.as_bus in
    record {
      found : (order : Order) (m : MessageTree) → Views l.asked.view.now order m
          → Collects (Below (EntryMatches as_bus m os) l.kind 0) l.rules.entries (gathered l.fn.visitor) (gathered l.visitor);
      kept : take (length (gathered l.fn.visitor)) (gathered l.visitor) ≡ gathered l.fn.visitor;
    }
