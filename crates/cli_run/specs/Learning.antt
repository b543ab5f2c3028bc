-- Which messages a selection selects, by the owners of well-known names that it knows: its own, and
-- those that the messages of the input tell. D-Bus Specification, "Message Bus Names".
use Rattle.std.specs.Prelude.{◌≡◌, ◌↔◌, ◌⊎◌, ◌&&◌, ℕ, List, [], ◌∷◌, Bool, true, IsTrue, if◌then◌else◌, Option, None, Some, option_map}
use Rattle.std.specs.FinSet.{empty, from_list}
use Rattle.std.specs.List.{list_any}
use Rattle.std.specs.declared.alloc.Global.{Global}
use Rattle.dbus_message_model.specs.Messages.{MessageTree}
use Rattle.dbus_rule.specs.declared.rule.Rule.{Rule}
use Rattle.dbus_rule.specs.Rules.{sender_of}
use Rattle.dbus_rule.specs.RuleViews.{rule_pairs}
use Rattle.dbus_match.specs.Matching.{ownerships}
use Rattle.dbus_calls.specs.Answering.{is_ownable}
use Rattle.dbus_calls.specs.OwnerChanges.{is_text}
use Rattle.dbus_names.specs.Kept.{state_of}
use Rattle.dbus_names.specs.NameStates.{NameState, known_after as names_after, known_first}
use Rattle.dbus_names.specs.declared.names.Names.{Names}
use Rattle.dbus_rule_set.specs.Owners.{OwnerSet, owners_in}
use Rattle.cli_options.specs.Selections.{SelectsBy}
use Rattle.cli_options.specs.declared.selection.Question.{Question}
use Rattle.cli_options.specs.declared.selection.Question.TheVariants as questions
use Rattle.cli_options.specs.declared.selection.Selection.{Selection}
use Rattle.cli_run.specs.Inputs.{Placed}
use Rattle.cli_run.specs.declared.selector.Selector.{Selector}

-- some rule asks for messages from this name
abbrev pub name_sender : List (Rule Global) → List ℕ → Bool
name_sender rules name = list_any (λ rule. is_text (sender_of (rule_pairs rule)) name) rules

-- its owner matters to what is asked: some rule asks for messages from it; or any may match, since
-- a message for one name of a connection may be taken for one for each other
abbrev pub matters : Question → List (Rule Global) → List ℕ → Bool
matters questions.Matches rules name = name_sender rules name
matters questions.MayMatch rules name = true

-- and a connection may have it beside its unique one. A rule does not look at the owner of another
abbrev pub asks_for : Selection → List ℕ → Bool
asks_for selection name = is_ownable name && matters selection.question selection.rules.items name

-- the owners that a selection gives
abbrev pub given_owners : Option Selection → OwnerSet
given_owners None = empty
given_owners (Some selection) = from_list (ownerships selection.owners.items)

-- what is known since a message was looked at, and before
abbrev pub known : Option Selection → Option Names → NameState
known selection None = known_first (given_owners selection)
known selection (Some names) = state_of names

-- what a selection knows after a message
abbrev pub known_after : Option Selection → NameState → MessageTree → NameState
known_after None state m = state
known_after (Some selection) state m = if selection.learns then names_after (asks_for selection) state m else state

-- what it knows after messages
abbrev pub known_after_all : Option Selection → NameState → List Placed → NameState
known_after_all selection state [] = state
known_after_all selection state (m ∷ items) = known_after_all selection (known_after selection state m.item.message) items

-- it selects a message by what it knows. Without a selection, all are selected
abbrev pub Selects : Option Selection → NameState → MessageTree → Type 0
Selects None state m = Unit {0}
Selects (Some selection) state m = SelectsBy selection (owners_in state.owners) m

-- the messages that it selects of these, in their order, if it knows this before them
abbrev pub AreSelected : Option Selection → NameState → (items selected : List Placed) → Type 0
AreSelected selection state [] selected = selected ≡ []
AreSelected selection state (m ∷ items) selected = (later : List Placed) × AreSelected selection (known_after selection state m.item.message) items later
    × ((Selects selection state m.item.message × (selected ≡ m ∷ later)) ⊎ ((Selects selection state m.item.message → ⊥) × (selected ≡ later)))

-- the selection of a selector
abbrev pub selection_of : Option Selector → Option Selection
selection_of selector = option_map (λ s. s.selection.now) selector

-- whether a message is selected, and what is known before and after it
pub record IsSelected (selection : Option Selection) (message : MessageTree) (old new : Option Names) (selected : Bool) : Type 0 where
  pub selects : IsTrue selected ↔ Selects selection (known selection old) message
  pub owners : known selection new ≡ known_after selection (known selection old) message
