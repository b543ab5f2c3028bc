-- What `list` writes: of the messages in an input those that are selected, each as a line with the
-- call that it answers and the names of connections, and what is told of messages that are refused.
use Rattle.std.specs.Prelude.{◌≡◌, ◌⊎◌, ℕ, Bool, false, List, [], ◌∷◌, ◌++◌, length, Option}
use Rattle.dbus_value_model.specs.declared.order.Order.{Order}
use Rattle.dbus_message_model.specs.Messages.{MessageTree}
use Rattle.dbus_call_lines.specs.Listing.{Numbered, nth}
use Rattle.dbus_list.specs.Lines.{IsLine}
use Rattle.dbus_list.specs.Pairs.{KeepsCalls, TellsCall, ToldCall}
use Rattle.dbus_names.specs.Kept.{state_of}
use Rattle.dbus_names.specs.NameStates.{KnownNames, NameState}
use Rattle.cli_options.specs.declared.settings.Settings.{Settings}
use Rattle.cli_options.specs.declared.wanted_lines.WantedLines.{WantedLines}
use Rattle.cli_options.specs.declared.window.Window.{Window}
use Rattle.cli_report.specs.Devices.{Reading, Writing}
use Rattle.cli_report.specs.declared.ending.ExitStatus.{ExitStatus}
use Rattle.cli_run.specs.CallListing.{number_and_time, numbered}
use Rattle.cli_run.specs.Inputs.{Placed}
use Rattle.cli_run.specs.Learning.{Selects, selection_of}
use Rattle.cli_run.specs.LineNames.{first_names, names_after, names_after_all, told_beside}
use Rattle.cli_run.specs.Making.{RunsBy, WritesMade}
use Rattle.cli_run.specs.Output.{after, is_spent, line_place, written}
use Rattle.cli_run.specs.declared.line_listing.LineRenderer.{LineRenderer}
use Rattle.cli_run.specs.declared.place.MessagePlace.{MessagePlace}

module _ (wanted : WantedLines) where
  -- the line of a message that came after others: it tells the call that it answers, if one of them,
  -- and the names of connections that are known
  abbrev pub IsLineAfter : KnownNames → (before : List Numbered) → Order → MessageTree → MessagePlace → List ℕ → Type 0
  IsLineAfter names before order message place line = (answered : Option ToldCall) × TellsCall before (nth (number_and_time place) message) answered
      × IsLine wanted.width (line_place place) (told_beside answered names message) order message line

  -- the lines of one message: one if it is selected by the owners that are known before it, else
  -- none. The names that it tells itself are known in its line
  abbrev pub AreLinesOfOne : NameState → (before : List Numbered) → Order → MessageTree → MessagePlace → List (List ℕ) → Type 0
  AreLinesOfOne os before order message place lines =
      (Selects wanted.selection os message × (line : List ℕ) × IsLineAfter (names_after os message).names before order message place line × (lines ≡ line ∷ []))
      ⊎ ((Selects wanted.selection os message → ⊥) × (lines ≡ []))

  -- those of several, one after the other
  abbrev pub AreLinesOf : NameState → (before : List Numbered) → List Placed → List (List ℕ) → Type 0
  AreLinesOf os before [] lines = lines ≡ []
  AreLinesOf os before (m ∷ items) lines = (one more : List (List ℕ)) × AreLinesOfOne os before m.item.order m.item.message m.place one
      × AreLinesOf (names_after os m.item.message) (before ++ nth (number_and_time m.place) m.item.message ∷ []) items more × (lines ≡ one ++ more)

-- what lines are wanted of one
abbrev pub asked : LineRenderer → WantedLines
asked a = record { selection = selection_of a.selector; width = a.width }

-- what lines are made by: what is wanted, the window for what follows, what is known of names, and the
-- messages that came
pub record LinesState : Type 0 where
  pub wanted : WantedLines
  pub window : Window
  pub names : NameState
  pub before : List Numbered

-- where what makes lines stands after such messages
abbrev pub state_at : LineRenderer → (before : List Numbered) → LinesState
state_at a before = record { wanted = asked a; window = a.window; names = state_of a.names; before = before }

-- it keeps the calls that wait after them
abbrev pub StandsAt : LineRenderer → LinesState → Type 0
StandsAt a s = (before : List Numbered) × (s ≡ state_at a before) × KeepsCalls before a.calls

-- the state after more messages, of which so many lines are made
abbrev pub lines_after : LinesState → List Placed → (lines : ℕ) → LinesState
lines_after s items lines = record { wanted = s.wanted; window = after s.window lines; names = names_after_all s.names items; before = s.before ++ numbered items }

-- the text is what the window lets through of the lines of the messages
pub record MakesLines (s : LinesState) (items : List Placed) (text : List ℕ) (t : LinesState) : Type 0 where
  pub lines : List (List ℕ)
  pub are : AreLinesOf s.wanted s.names s.before items lines
  pub text_is : text ≡ written s.window lines
  pub then : t ≡ lines_after s items (length lines)

-- ---- the run

-- this says whether no more messages are wanted after these
abbrev pub AreLinesFilled : WantedLines → Window → List Placed → Bool → Type 0
AreLinesFilled wanted window items filled = (lines : List (List ℕ)) × AreLinesOf wanted (first_names wanted.selection) [] items lines × (is_spent (after window (length lines)) ≡ filled)

-- where a run starts
abbrev pub first_lines : WantedLines → Window → LinesState
first_lines wanted window = record { wanted = wanted; window = window; names = first_names wanted.selection; before = [] }

-- the lines of messages are written, and what is told of those that are refused
abbrev pub WritesLines : {W E : Type 0} → Writing W → Writing E → Settings → WantedLines → List Placed → (told : List ℕ) → Type 0
WritesLines w e settings wanted = WritesMade MakesLines (first_lines wanted settings.window) false w e

abbrev pub ListsLines : {R W E : Type 0} → Reading R → Writing W → Writing E → Settings → WantedLines → (most : ℕ) → ExitStatus → Type 0
ListsLines r w e settings wanted most end = RunsBy MakesLines (first_lines wanted settings.window) (λ s. is_spent s.window) false r w e settings most end
