-- Who has which name, as the lines of `list` and of `calls` tell it. D-Bus Specification, "Message Bus Names".
use Rattle.std.specs.Prelude.{List, [], ◌∷◌, Option, option_and_then}
use Rattle.dbus_message_model.specs.Messages.{MessageTree}
use Rattle.dbus_calls.specs.Events.{destination_of, sender_of}
use Rattle.dbus_names.specs.Filters.{is_well_known}
use Rattle.dbus_names.specs.NameStates.{KnownNames, NameState, known_after, known_first}
use Rattle.dbus_call_lines.specs.Names.{Known}
use Rattle.dbus_list.specs.Pairs.{ToldCall}
use Rattle.dbus_list.specs.Told.{Told}
use Rattle.cli_options.specs.declared.selection.Selection.{Selection}
use Rattle.cli_run.specs.Inputs.{Placed}
use Rattle.cli_run.specs.Learning.{given_owners}

-- those that a selection gives are known first, and what each message tells of well-known names
-- after it
abbrev pub first_names : Option Selection → NameState
first_names selection = known_first (given_owners selection)

abbrev pub names_after : NameState → MessageTree → NameState
names_after os m = known_after is_well_known os m

abbrev pub names_after_all : NameState → List Placed → NameState
names_after_all os [] = os
names_after_all os (m ∷ items) = names_after_all (names_after os m.item.message) items

-- the names by which the connections of a message are known
abbrev pub known_beside : KnownNames → MessageTree → Known
known_beside names m = record { sender = option_and_then names (sender_of m); destination = option_and_then names (destination_of m) }

-- what is told beside a message
abbrev pub told_beside : (answered : Option ToldCall) → KnownNames → MessageTree → Told
told_beside answered names m = let known = known_beside names m in record { answered = answered; sender = known.sender; destination = known.destination }
