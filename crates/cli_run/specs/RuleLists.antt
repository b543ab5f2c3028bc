-- Lists of rules of which the same holds of each message.
-- D-Bus Specification, "Match Rules".
use Rattle.std.specs.Prelude.{◌↔◌, Bool, List}
use Rattle.std.specs.declared.alloc.Global.{Global}
use Rattle.dbus_message_model.specs.Messages.{MessageTree}
use Rattle.dbus_match.specs.Matching.{Ownership}
use Rattle.dbus_rule.specs.declared.rule.Rule.{Rule}
use Rattle.cli_options.specs.Selections.{SomeHolds}
use Rattle.cli_options.specs.declared.selection.Question.{Question}

-- whatever is asked with owners of names, as a bus asks or not, it holds of no rule of one list and a
-- message exactly if it holds of none of the other
abbrev pub MatchAlike : List (Rule Global) → List (Rule Global) → Type 0
MatchAlike rules others = (as_bus : Bool) (q : Question) (m : MessageTree) (os : List Ownership) → (SomeHolds as_bus q rules m os → ⊥) ↔ (SomeHolds as_bus q others m os → ⊥)
