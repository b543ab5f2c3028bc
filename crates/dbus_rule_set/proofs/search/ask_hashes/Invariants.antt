use Rattle.std.proofs.Common.{◌≡◌, ◌-◌, ◌≤◌, List, take, length}
use Rattle.dbus_value_model.specs.declared.order.Order.{Order}
use Rattle.dbus_message_model.specs.Messages.{MessageTree}
use Rattle.dbus_view.specs.Views.{Views}
use Rattle.dbus_rule_set.specs.declared.handle.RuleHandle.{RuleHandle}
use Rattle.dbus_rule_set.specs.Held.{Collects, EntryMatches}
use Rattle.dbus_rule_set.proofs.Parted.{Below, HaveHashes}
use Rattle.dbus_rule_set.proofs.search.ask_hashes.Given as goal

-- those of hashes below the number are found
abbrev pub invariant-loop-hash : goal.invariant-loop-hash
invariant-loop-hash g l =
    let gathered = g.V.RuleVisitor.gathered in
    let os = l.asked.owners.now in
    let as_bus = l.asked.as_bus in
    let es = l.rules.entries in
    record {
      found : (order : Order) (m : MessageTree) → Views l.asked.view.now order m → HaveHashes (EntryMatches as_bus m os) l.kind l.hashes es
          → (first : List RuleHandle) → Collects (Below (EntryMatches as_bus m os) l.kind 0) es first (gathered l.fn.visitor)
          → Collects (Below (EntryMatches as_bus m os) l.kind l.from) es first (gathered l.visitor);
      kept : take (length (gathered l.fn.visitor)) (gathered l.visitor) ≡ gathered l.fn.visitor;
      bound : l.from ≤ 4294967296;
    }

abbrev pub decreases-loop-hash : goal.decreases-loop-hash
decreases-loop-hash g l = 4294967296 - l.from
