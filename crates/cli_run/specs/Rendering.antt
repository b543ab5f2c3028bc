-- What a command that is run by settings makes of messages, from one state to another.
use Rattle.std.specs.Prelude.{◌≡◌, ℕ, Bool, false, List, None, length}
use Rattle.dbus_names.specs.NameStates.{NameState}
use Rattle.cli_options.specs.declared.command.Command.{Command}
use Rattle.cli_options.specs.declared.window.Window.{Window}
use Rattle.cli_run.specs.Inputs.{Placed}
use Rattle.cli_run.specs.Learning.{known, selection_of}
use Rattle.cli_run.specs.Output.{IsOutputOfAll, after, begun_after, form_of, is_filled, output_of, owners_after_all}
use Rattle.cli_run.specs.declared.output.OutputRenderer.{OutputRenderer}

-- the command, the window for what follows, whether a message was looked at, and what is known of
-- the owners of names
pub record OutputState : Type 0 where
  pub command : Command
  pub window : Window
  pub begun : Bool
  pub owners : NameState

-- the command whose output a renderer makes
abbrev pub command_of : {A : Type 0} → OutputRenderer A → Command
command_of a = record { output = a.output; selection = selection_of a.selector }

abbrev pub state_of : {A : Type 0} → OutputRenderer A → OutputState
state_of a = record { command = command_of a; window = a.window; begun = a.begun; owners = known (selection_of a.selector) a.owners }

-- where a command starts
abbrev pub first_state : Command → Window → OutputState
first_state command window = record { command = command; window = window; begun = false; owners = known command.selection None }

-- it wants no more messages
abbrev pub is_full : OutputState → Bool
is_full s = is_filled s.command.output s.window

-- the state after messages of which so many texts are made
abbrev pub state_after : OutputState → List Placed → (texts : ℕ) → OutputState
state_after s items texts = record { command = s.command; window = after s.window texts; begun = begun_after s.begun items; owners = owners_after_all s.command s.owners items }

-- the text is what the window lets through of the texts that the command makes of the messages,
-- after the header
pub record Makes (s : OutputState) (items : List Placed) (text : List ℕ) (t : OutputState) : Type 0 where
  pub texts : List (List ℕ)
  pub made : IsOutputOfAll s.command s.owners items texts
  pub text_is : text ≡ output_of (form_of s.command.output) s.begun s.window items texts
  pub then : t ≡ state_after s items (length texts)
