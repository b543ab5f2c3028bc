-- That each message has a line.
use Rattle.std.proofs.Common.{ℕ, List, [], ◌∷◌, ◌++◌, inl, inr, refl}
use Rattle.dbus_value_model.specs.declared.order.Order.{Order}
use Rattle.dbus_message_model.specs.Messages.{MessageTree}
use Rattle.dbus_call_lines.specs.Listing.{Numbered, nth}
use Rattle.dbus_list.proofs.Paired.{some_told}
use Rattle.dbus_list.proofs.SomeLines.{some_line_each}
use Rattle.dbus_names.specs.NameStates.{KnownNames, NameState}
use Rattle.cli_options.specs.declared.wanted_lines.WantedLines.{WantedLines}
use Rattle.cli_run.specs.CallListing.{number_and_time}
use Rattle.cli_run.specs.Inputs.{Placed}
use Rattle.cli_run.specs.Laws.{SomeLines}
use Rattle.cli_run.specs.LineListing.{AreLinesOf, AreLinesOfOne, IsLineAfter}
use Rattle.cli_run.specs.LineNames.{first_names, names_after, told_beside}
use Rattle.cli_run.specs.Output.{line_place}
use Rattle.cli_run.specs.declared.place.MessagePlace.{MessagePlace}
use Rattle.cli_run.proofs.Outputs.{selects_or}

-- ---- each message has a line

pub some_line : (wanted : WantedLines) (names : KnownNames) (before : List Numbered) (order : Order) (m : MessageTree) (place : MessagePlace) → (line : List ℕ) × IsLineAfter wanted names before order m place line
some_line wanted names before order m place =
    let call = some_told before (nth (number_and_time place) m) in
    let line = some_line_each wanted.width (line_place place) (told_beside call.0 names m) order m in
    (line.0, (call.0, call.1, line.1))

pub some_lines_of_one : (wanted : WantedLines) (os : NameState) (before : List Numbered) (order : Order) (m : MessageTree) (place : MessagePlace) → (lines : List (List ℕ)) × AreLinesOfOne wanted os before order m place lines
some_lines_of_one wanted os before order m place =
    let some = some_line wanted (names_after os m).names before order m place in
    elim (selects_or wanted.selection os m) [
      | inl h ↦ (some.0 ∷ [], inl (h, some.0, some.1, refl))
      | inr n ↦ ([], inr (n, refl))
    ]

pub some_lines_of_all : (wanted : WantedLines) (os : NameState) (before : List Numbered) (items : List Placed) → (lines : List (List ℕ)) × AreLinesOf wanted os before items lines
some_lines_of_all wanted os before [] = ([], refl)
some_lines_of_all wanted os before (m ∷ items) =
    let one = some_lines_of_one wanted os before m.item.order m.item.message m.place in
    let more = some_lines_of_all wanted (names_after os m.item.message) (before ++ nth (number_and_time m.place) m.item.message ∷ []) items in
    (one.0 ++ more.0, (one.0, more.0, one.1, more.1, refl))

pub some_lines : SomeLines
some_lines wanted items = some_lines_of_all wanted (first_names wanted.selection) [] items
