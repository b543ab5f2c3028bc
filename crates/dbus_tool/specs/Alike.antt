-- One law for the program: words that name something, and an input, have one output and one status.
use Rattle.std.specs.Prelude.{◌≡◌, ◌≢◌, ℕ, List, [], Option, Some, Ok}
use Rattle.clap.specs.Words.{Text}
use Rattle.clap.specs.Faults.{fault_of}
use Rattle.dbus_device.specs.Packets.{Packets}
use Rattle.dbus_device.specs.declared.packet.Packet.{Packet}
use Rattle.dbus_handshake_input.specs.Ahead.{packets_of}
use Rattle.dbus_handshake_input.specs.declared.read_ahead.ReadAhead.{ReadAhead}
use Rattle.cli_options.specs.CommandLine.{wire_app}
use Rattle.cli_options.specs.Named.{IsNamedBy}
use Rattle.cli_options.specs.declared.asked.Asked.{Asked}
use Rattle.cli_options.specs.declared.file_form.FileForm.{FileForm}
use Rattle.cli_options.specs.declared.file_form.FileForm.TheVariants.{AsRead, Raw}
use Rattle.cli_options.specs.declared.asked.Asked.TheVariants.{Messages, Encode, Handshake}
use Rattle.cli_options.specs.declared.command.Task.{Task}
use Rattle.cli_options.specs.declared.command.Task.TheVariants.{Write, Lines}
use Rattle.cli_options.specs.declared.settings.Settings.{Settings}
use Rattle.cli_report.specs.Devices.{Reading, Writing}
use Rattle.cli_report.specs.declared.ending.ExitStatus.{ExitStatus}
use Rattle.cli_report.specs.declared.ending.ExitStatus.TheVariants as status
use Rattle.cli_run.specs.Laws.{AreOfSamePackets, AreToldAlike, EndAlike, ReadAlike, TellsOne}
use Rattle.cli_run.specs.Output.{IsExact, form_of}
use Rattle.dbus_tool.specs.Handshaking.{TakesHandshake, ahead}
use Rattle.dbus_tool.specs.Words.{RunsWords}

-- what is asked for is done in one way: it is neither `json` nor `list`, and no `show` with times,
-- and `encode` refuses no line
abbrev pub IsOneTask : Task → Type 0
IsOneTask (Write output) = IsExact output
IsOneTask (Lines width) = ⊥
IsOneTask task = Unit {0}

abbrev pub IsOneWay : (end : ExitStatus) → Asked → Type 0
IsOneWay end (Messages request) = IsOneTask request.task
IsOneWay end (Encode wanted) = end ≡ status.Done
IsOneWay end (Handshake side) = Unit {0}

-- words in which clap finds no fault name this
pub record NameOneWay (words : List Text) (end : ExitStatus) : Type 0 where
  pub asked : Asked
  pub named : IsNamedBy words asked
  pub one_way : IsOneWay end asked
  pub faultless : fault_of wire_app words ≡ []

module _ {R S : Type 0} (left : R → Option (List ℕ)) (calls failures : R → ℕ) (packets : R → Option Packets) (packet : R → Option Packet) (other_left : S → Option (List ℕ)) (other_calls other_failures : S → ℕ)
    (other_packets : S → Option Packets) (other_packet : S → Option Packet) (r0 r1 : ReadAhead R) (s0 s1 : ReadAhead S) (end : ExitStatus) where
  -- both inputs are of the same packets
  abbrev pub SamePackets : Type 0
  SamePackets = AreOfSamePackets (ahead left calls failures packets packet r0 r1) (ahead other_left other_calls other_failures other_packets other_packet s0 s1)

  -- what a command writes in this form is the same: refused messages are told with the packets of
  -- their faults, if there are any, and as they are read messages have the times of packets
  abbrev pub RunAlike : FileForm → Type 0
  RunAlike Raw = AreToldAlike (ahead left calls failures packets packet r0 r1) (ahead other_left other_calls other_failures other_packets other_packet s0 s1) end
  RunAlike AsRead = SamePackets

  -- each refused message of what follows the handshake of a side is told by one text
  abbrev pub TellsOneBehind : Settings → Type 0
  TellsOneBehind settings = (begun : ReadAhead R) (bytes : List ℕ) → TakesHandshake left calls failures packets packet settings.handshake r0 begun (Ok tt) → (ahead left calls failures packets packet begun r1).left begun ≡ Some bytes
      → TellsOne (packets_of packets packet begun) settings bytes end

  -- what is done has one output: `count`, `list` and `calls` write times of packets too
  abbrev pub TaskAlike : Task → Type 0
  TaskAlike (Write output) = RunAlike (form_of output)
  TaskAlike task = SamePackets

  abbrev pub AskAlike : Asked → Type 0
  AskAlike (Messages request) = TaskAlike request.task × TellsOneBehind request.settings
  AskAlike (Encode wanted) = Unit {0}
  AskAlike (Handshake side) = Unit {0}

-- two runs of the program by such words that read the same input, and did not fail, end alike
abbrev pub OneProgram : (R S W V E F : Type 0) → Type 0
OneProgram R S W V E F = (left : R → Option (List ℕ)) (calls failures : R → ℕ) (packets : R → Option Packets) (packet : R → Option Packet) (other_left : S → Option (List ℕ)) (other_calls other_failures : S → ℕ)
    (other_packets : S → Option Packets) (other_packet : S → Option Packet) (r0 r1 : ReadAhead R) (s0 s1 : ReadAhead S)
    (w : Writing W) (v : Writing V) (e : Writing E) (f : Writing F) (words : List Text) (end other : ExitStatus)
    → NameOneWay words end → ReadAlike (ahead left calls failures packets packet r0 r1) (ahead other_left other_calls other_failures other_packets other_packet s0 s1)
    → end ≢ status.Failed → other ≢ status.Failed
    → RunsWords left calls failures packets packet r0 r1 w e words end → RunsWords other_left other_calls other_failures other_packets other_packet s0 s1 v f words other
    → ((asked : Asked) → IsNamedBy words asked → AskAlike left calls failures packets packet other_left other_calls other_failures other_packets other_packet r0 r1 s0 s1 end asked) → EndAlike w v e f end other
