-- One law for two runs of the program: what `json` writes of messages, `encode` reads back.
-- RFC 8259, of the messages of the D-Bus Specification, "Message Format".
use Rattle.std.specs.Prelude.{◌≡◌, ◌≢◌, ◌<◌, ◌^◌, ℕ, Bool, false, List, [], length, None, Some, Option}
use Rattle.clap.specs.Words.{Text}
use Rattle.clap.specs.Faults.{fault_of}
use Rattle.dbus_device.specs.Packets.{Packets}
use Rattle.dbus_device.specs.declared.packet.Packet.{Packet}
use Rattle.dbus_handshake_input.specs.declared.read_ahead.ReadAhead.{ReadAhead}
use Rattle.cli_options.specs.CommandLine.{wire_app}
use Rattle.cli_options.specs.Limiting.{ask_more}
use Rattle.cli_options.specs.Named.{IsNamedBy}
use Rattle.cli_options.specs.declared.asked.Asked.TheVariants.{Messages, Encode}
use Rattle.cli_options.specs.declared.command.Output.TheVariants.{JsonLine}
use Rattle.cli_options.specs.declared.command.Task.TheVariants.{Write}
use Rattle.cli_options.specs.declared.settings.Settings.{Settings}
use Rattle.cli_options.specs.declared.wanted_encoding.WantedEncoding.{WantedEncoding}
use Rattle.cli_report.specs.Devices.{Reading, Writing}
use Rattle.cli_report.specs.declared.ending.ExitStatus.{ExitStatus}
use Rattle.cli_report.specs.declared.ending.ExitStatus.TheVariants as status
use Rattle.cli_encode_laws.specs.InputBack.{AreShort, IsDoneWith}
use Rattle.dbus_tool.specs.Handshaking.{ahead}
use Rattle.dbus_tool.specs.Words.{RunsWords}

-- The first words name `json`, with no rules, and with no options but limits, whether times are
-- written and whether integers are safe, and the others `encode`, with the same limits, integers
-- safe or not as in the first, and no other byte order.
pub record NameInverses (words others : List Text) : Type 0 where
  pub times : Bool
  pub safe : Bool
  pub settings : Settings
  pub json : IsNamedBy words (Messages (record { task = Write (JsonLine times safe); selection = None; settings = settings }))
  pub no_more : ask_more settings ≡ false
  pub no_handshake : settings.handshake ≡ None
  pub wanted : WantedEncoding
  pub encode : IsNamedBy others (Encode wanted)
  pub no_order : wanted.order ≡ None
  pub same_limits : wanted.limits ≡ settings.limits
  pub same_integers : wanted.safe_integers ≡ safe
  pub faultless : fault_of wire_app words ≡ []
  pub others_faultless : fault_of wire_app others ≡ []

-- the first run is done, and the second read what the first wrote, of lines that may be so long, and
-- did not fail: then it wrote what the first read
abbrev pub OneInput : {R S W V F : Type 0} → Reading R → Reading S → Writing W → Writing V → Writing F → (most : ℕ) → (end : ExitStatus) → Type 0
OneInput r s w v f most end = (input text : List ℕ) → r.left r.old ≡ Some input → length input < 2 ^ 64 → w.held w.old ≡ Some [] → w.held w.new ≡ Some text → s.left s.old ≡ Some text → AreShort most text
    → end ≢ status.Failed → IsDoneWith v f end input

-- two runs of the program by such words
abbrev pub ProgramBack : (R S W V E F : Type 0) → Type 0
ProgramBack R S W V E F = (left : R → Option (List ℕ)) (calls failures : R → ℕ) (packets : R → Option Packets) (packet : R → Option Packet) (other_left : S → Option (List ℕ)) (other_calls other_failures : S → ℕ)
    (other_packets : S → Option Packets) (other_packet : S → Option Packet) (r0 r1 : ReadAhead R) (s0 s1 : ReadAhead S)
    (w : Writing W) (v : Writing V) (e : Writing E) (f : Writing F) (words others : List Text) (end : ExitStatus) (named : NameInverses words others)
    → RunsWords left calls failures packets packet r0 r1 w e words status.Done → RunsWords other_left other_calls other_failures other_packets other_packet s0 s1 v f others end
    → OneInput (ahead left calls failures packets packet r0 r1) (ahead other_left other_calls other_failures other_packets other_packet s0 s1) w v f named.wanted.max_line end
