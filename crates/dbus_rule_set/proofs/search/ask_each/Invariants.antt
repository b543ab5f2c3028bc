use Rattle.std.proofs.Common.{◌≡◌, List, take, length}
use Rattle.dbus_value_model.specs.declared.order.Order.{Order}
use Rattle.dbus_message_model.specs.Messages.{MessageTree}
use Rattle.dbus_view.specs.Views.{Views}
use Rattle.dbus_rule_set.specs.declared.handle.RuleHandle.{RuleHandle}
use Rattle.dbus_rule_set.specs.Held.{Collects, EntryMatches, HoldsOfAny}
use Rattle.dbus_rule_set.proofs.search.ask_each.Given as goal

-- what those left bring to the end comes of all, and what holds of one of them holds of one of all
abbrev pub invariant-loop-handle : goal.invariant-loop-handle
invariant-loop-handle g l =
    let gathered = g.V.RuleVisitor.gathered in
    let os = l.asked.owners.now in
    let as_bus = l.asked.as_bus in
    record {
      found : (order : Order) (m : MessageTree) → Views l.asked.view.now order m → (end : List RuleHandle)
          → Collects (EntryMatches as_bus m os) l.handle-iterator (gathered l.visitor) end
          → Collects (EntryMatches as_bus m os) l.fn.rules (gathered l.fn.visitor) end;
      left : (order : Order) (m : MessageTree) → Views l.asked.view.now order m
          → HoldsOfAny (EntryMatches as_bus m os) l.handle-iterator → HoldsOfAny (EntryMatches as_bus m os) l.fn.rules;
      kept : take (length (gathered l.fn.visitor)) (gathered l.visitor) ≡ gathered l.fn.visitor;
    }
