use Rattle.std.proofs.Common.{drop}
use Rattle.dbus_message_model.specs.MessageViews.{message_tree}
use Rattle.dbus_rule.specs.Rules.{condition_pairs}
use Rattle.dbus_match.specs.Matching.{Matches, ownerships}
use Rattle.dbus_match.proofs.matching.matches.Given as goal

-- if those left hold, then all
abbrev pub invariant-loop-condition : goal.invariant-loop-condition
invariant-loop-condition g l = Matches (condition_pairs (drop l.condition-index l.conditions)) (message_tree l.message) (ownerships l.owners) → Matches (condition_pairs l.conditions) (message_tree l.message) (ownerships l.owners)
