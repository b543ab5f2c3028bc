use Rattle.std.proofs.Common.{Bool, List}
use Rattle.dbus_message_model.specs.Messages.{MessageTree}
use Rattle.dbus_match.specs.Matching.{Ownership}
use Rattle.dbus_rule_set.specs.Held.{held}
use Rattle.cli_options.specs.declared.selection.Question.{Question}
use Rattle.cli_run.proofs.RuleSets.{AreAdded}
use Rattle.cli_run.proofs.selector.set_of.Given as goal

-- the rules match as those of the set, and those that are left
abbrev pub invariant-loop-rule : goal.invariant-loop-rule
invariant-loop-rule l = (as_bus : Bool) (q : Question) (m : MessageTree) (os : List Ownership) → AreAdded as_bus q m os l.rules l.rule-index (held l.set)
