use Rattle.std.proofs.Common.{drop, option_map}
use Rattle.dbus_message_model.specs.Messages.{MessageTree}
use Rattle.dbus_rule.specs.Rules.{condition_pairs}
use Rattle.dbus_match.specs.TakenFor.{EachMayHold, IsOf}
use Rattle.dbus_match.proofs.may_matching.each_may_hold.Given as goal

-- if those left may hold, then all
abbrev pub invariant-loop-condition : goal.invariant-loop-condition
invariant-loop-condition g l = (m : MessageTree) → IsOf l.subject m →
    let sender = option_map (λ s. s.now) l.sender in
    let known = g.O.KnownOwners.known l.owners in
    EachMayHold (condition_pairs (drop l.condition-index l.conditions)) m sender known → EachMayHold (condition_pairs l.conditions) m sender known
