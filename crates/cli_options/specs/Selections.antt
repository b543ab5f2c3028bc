-- Which messages a selection selects.
-- D-Bus Specification, "Match Rules" and "Eavesdropping".
use Rattle.std.specs.Prelude.{◌≡◌, ◌⊎◌, Bool, true, false, IsTrue, List, [], ◌∷◌, map, Option, None, Some}
use Rattle.std.specs.declared.alloc.Global.{Global}
use Rattle.dbus_message_model.specs.Messages.{MessageTree}
use Rattle.dbus_message_model.specs.declared.field_code.TheConstants as field
use Rattle.dbus_rule.specs.declared.rule.Rule.{Rule}
use Rattle.dbus_rule.specs.Rules.{Pair}
use Rattle.dbus_match.specs.Matching.{Matches, Ownership, ownerships}
use Rattle.dbus_match.specs.TakenFor.{MayMatch, text_at}
use Rattle.dbus_rule.specs.RuleViews.{rule_pairs}
use Rattle.dbus_rule_set.specs.Eavesdropping.{is_asked}
use Rattle.cli_options.specs.declared.selection.Question.{Question}
use Rattle.cli_options.specs.declared.selection.Question.TheVariants as questions
use Rattle.cli_options.specs.declared.selection.Selection.{Selection}
use Rattle.cli_options.specs.declared.command.Command.{Command}

-- a rule is asked of a message, as a bus asks or not, and what is asked holds with these owners: the
-- rule matches it, or may match it, whose SENDER the bus wrote, if it has one
abbrev pub Holds : (as_bus : Bool) → Question → List Pair → MessageTree → List Ownership → Type 0
Holds as_bus questions.Matches ps m os = IsTrue (is_asked as_bus m ps) × Matches ps m os
Holds as_bus questions.MayMatch ps m os = IsTrue (is_asked as_bus m ps) × ∥ MayMatch ps m (text_at field.SENDER m) os ∥₁

-- it holds of some rule of the list
abbrev pub SomeHolds : (as_bus : Bool) → Question → List (Rule Global) → MessageTree → List Ownership → Type 0
SomeHolds as_bus q [] m os = ⊥
SomeHolds as_bus q (rule ∷ rules) m os = Holds as_bus q (rule_pairs rule) m os ⊎ SomeHolds as_bus q rules m os

-- what holds of a message where it is selected: this, or, inverted, that it does not
abbrev pub OrInverted : Bool → Type 0 → Type 0
OrInverted false P = P
OrInverted true P = P → ⊥

-- the selection selects the message with these owners: what it asks holds of some of its rules; or,
-- inverted, of none
abbrev pub SelectsBy : Selection → List Ownership → MessageTree → Type 0
SelectsBy selection os m = OrInverted selection.is_inverted (SomeHolds selection.as_bus selection.question selection.rules.items m os)

-- it is by this rule alone, if that matches, not as at a bus, with no owners, and learns none
pub record IsByRule (rule : Rule Global) (selection : Selection) : Type 0 where
  pub rules : map rule_pairs selection.rules.items ≡ rule_pairs rule ∷ []
  pub straight : selection.is_inverted ≡ false
  pub question : selection.question ≡ questions.Matches
  pub owners : selection.owners.items ≡ []
  pub fixed : selection.learns ≡ false
  pub unbound : selection.as_bus ≡ false

-- both have the same rules and owners, each in the same order, and ask the same, and both are
-- inverted, or neither is, and both learn, or neither does, and both ask as a bus, or neither does
pub record AreSameSelection (a b : Selection) : Type 0 where
  pub rules : map rule_pairs a.rules.items ≡ map rule_pairs b.rules.items
  pub inverted : a.is_inverted ≡ b.is_inverted
  pub question : a.question ≡ b.question
  pub owners : ownerships a.owners.items ≡ ownerships b.owners.items
  pub learns : a.learns ≡ b.learns
  pub as_bus : a.as_bus ≡ b.as_bus

-- both select all messages, or the same ones
abbrev pub AreSameSelected : Option Selection → Option Selection → Type 0
AreSameSelected None None = Unit {0}
AreSameSelected (Some a) (Some b) = AreSameSelection a b
AreSameSelected a b = ⊥

-- both commands write the same of messages, and select the same ones
abbrev pub AreSameCommand : Command → Command → Type 0
AreSameCommand a b = (a.output ≡ b.output) × AreSameSelected a.selection b.selection
