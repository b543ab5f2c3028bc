-- The laws over what a command writes: of all messages and the fault after them there is an output,
-- and of each command but `json` exactly one. And what a command does by its settings is what it
-- does under limits alone, if they ask for no more.
use Rattle.std.specs.Prelude.{◌≡◌, ◌+◌, ◌*◌, ◌≤◌, ℕ, Bool, true, false, List, [], ◌∷◌, ◌++◌, Option, ◌≢◌, ◌⊎◌, Some, None}
use Rattle.std.specs.List.{AllByRecursion}
use Rattle.dbus_value_model.specs.declared.fault.Fault.{Fault}
use Rattle.dbus_stream.specs.Cut.{CutMessage}
use Rattle.cli_options.specs.Limiting.{ask_more}
use Rattle.cli_options.specs.declared.command.Command.{Command}
use Rattle.cli_options.specs.declared.command.Output.{Output}
use Rattle.cli_options.specs.declared.command.Output.TheVariants.{AsIs, InOrder}
use Rattle.cli_options.specs.declared.file_form.FileForm.TheVariants.{AsRead, Raw}
use Rattle.cli_options.specs.declared.window.Window.{Window}
use Rattle.dbus_capture.specs.Reading.{IsRead}
use Rattle.dbus_header.specs.NoMessage.{IsFaultAtEnd}
use Rattle.dbus_message_model.specs.Messages.{IsValidMessage}
use Rattle.dbus_explain.specs.Laws.{HeaderHasNoDouble}
use Rattle.dbus_names.specs.NameStates.{NameState}
use Rattle.cli_options.specs.declared.resync.Resync.TheVariants.{Within}
use Rattle.cli_options.specs.declared.selection.Selection.{Selection}
use Rattle.cli_options.specs.declared.settings.Settings.{Settings}
use Rattle.cli_report.specs.Devices.{reading, writing, Reading, Writing}
use Rattle.cli_report.specs.declared.ending.ExitStatus.{ExitStatus}
use Rattle.cli_report.specs.FaultFronts.{IsFaultFront}
use Rattle.cli_report.specs.Gathering.{IsPrefixTo}
use Rattle.dbus_device.specs.Device.{Wrote}
use Rattle.dbus_device.specs.Packets.{Packets}
use Rattle.dbus_value_model.specs.ByteNumbers.{IsBytes}
use Rattle.dbus_value_model.specs.declared.limits.Limits.{Limits}
use Rattle.dbus_count.specs.Spans.{span_text}
use Rattle.dbus_count.specs.declared.form.Form.{Form}
use Rattle.dbus_count.specs.declared.span.Span.{Span}
use Rattle.cli_options.specs.Selections.{AreSameCommand, AreSameSelected}
use Rattle.cli_report.specs.declared.ending.ExitStatus.TheVariants as status
use Rattle.cli_run.specs.Running.{Runs, RunsWith, Writes}
use Rattle.cli_run.specs.Going.{AreTold}
use Rattle.cli_run.specs.Output.{AreAlike, IsExact, IsFirstOutput, IsFront, IsOutputOfAll, form_of, output_of}
use Rattle.dbus_call_lines.specs.Listing.{AreNames}
use Rattle.dbus_call_lines.specs.declared.wanted.Wanted.{Wanted}
use Rattle.cli_run.specs.ByName.{CountsByName, table_form}
use Rattle.cli_run.specs.CallListing.{ListsCalls, all_named}
use Rattle.cli_run.specs.CallSumming.{SumsCalls}
use Rattle.cli_run.specs.Inputs.{BeginWithParts, Part, Placed, looked_in, sizes_of}
use Rattle.cli_run.specs.LineListing.{AreLinesOf, ListsLines, WritesLines}
use Rattle.cli_run.specs.LineNames.{first_names}
use Rattle.cli_options.specs.declared.wanted_lines.WantedLines.{WantedLines}

-- of each list of messages, and a fault after them or none, which is of this packet, the command
-- has an output, whatever the packets are
abbrev pub SomeOutput : Type 0
SomeOutput = (packets : Option Packets) (command : Command) (items : List CutMessage) (fault : Option Fault) (packet : Option ℕ) → (out : List ℕ) × IsFirstOutput packets command items fault packet out

-- and no other, if the command is exact: it depends on other packets only if it writes messages as
-- they are read
abbrev pub OneOutput : Type 0
OneOutput = (packets others : Option Packets) (command : Command) (items : List CutMessage) (fault : Option Fault) (packet : Option ℕ) (x y : List ℕ)
    → IsExact command.output → AreAlike (form_of command.output) packets others → IsFirstOutput packets command items fault packet x → IsFirstOutput others command items fault packet y → x ≡ y

-- so what is a prefix of an output then is one of each
abbrev pub OneFront : Type 0
OneFront = (packets others : Option Packets) (limits : Limits) (command : Command) (items : List CutMessage) (rest : List ℕ) (fault : Option Fault) (front out : List ℕ)
    → IsExact command.output → AreAlike (form_of command.output) packets others → (is : IsFront packets limits command items rest fault front) → IsFirstOutput others command items fault is.packet out → IsPrefixTo front out

-- by settings that ask for no more, a command does what it does under their limits alone
abbrev pub PlainRuns : {R W E : Type 0} → (left : R → Option (List ℕ)) → (calls failures : R → ℕ) → (packets : R → Option Packets) → (held : W → Option (List ℕ)) → (write_failures : W → ℕ) → (second_held : E → Option (List ℕ))
    → (second_failures : E → ℕ) → Type 0
PlainRuns {R} {W} {E} left calls failures packets held write_failures second_held second_failures =
    (settings : Settings) (most : ℕ) (command : Command) (r0 r1 : R) (w0 w1 : W) (e0 e1 : E) (end : ExitStatus) → ask_more settings ≡ false
    → RunsWith (reading left calls failures packets r0 r1) (writing held write_failures w0 w1) (writing second_held second_failures e0 e1) settings most command end
    → Runs (reading left calls failures packets r0 r1) (writing held write_failures w0 w1) (writing second_held second_failures e0 e1) settings.limits most command end

-- What is written of captured messages is a file again.

-- what writes the same messages raw
abbrev pub raw_of : Output → Output
raw_of (InOrder wanted form) = InOrder wanted Raw
raw_of (AsIs form) = AsIs Raw
raw_of output = output

-- the command that does
abbrev pub in_raw : Command → Command
in_raw command = record { output = raw_of command.output; selection = command.selection }

-- each is a message within the limits that came in a packet
abbrev pub AreCaptured : Limits → List Placed → Type 0
AreCaptured limits [] = Unit {0}
AreCaptured limits (m ∷ items) = IsValidMessage limits m.item.message × (m.place.in_packet ≡ true) × AreCaptured limits items

-- of such messages, of which there is one at least, a command that writes them as they are read
-- writes, within any window, a file that a capture reads whole: what it gives is what the command
-- writes of them raw
abbrev pub WritesFile : Type 0
WritesFile = (limits : Limits) (command : Command) (os : NameState) (window : Window) (m : Placed) (items : List Placed) (texts : List (List ℕ))
    → form_of command.output ≡ AsRead → AreCaptured limits (m ∷ items) → IsOutputOfAll command os (m ∷ items) texts
    → (raw : List (List ℕ)) × IsOutputOfAll (in_raw command) os (m ∷ items) raw
    × ((passes_cut : Bool) → IsRead passes_cut (output_of AsRead false window (m ∷ items) texts) (output_of Raw false window (m ∷ items) raw))

-- One law for all commands and settings: two runs that read the same input end alike.

-- both sources have the same bytes left at first
abbrev pub ReadAlike : {R S : Type 0} → Reading R → Reading S → Type 0
ReadAlike r s = (input : List ℕ) × IsBytes input × (r.left r.old ≡ Some input) × (s.left s.old ≡ Some input)

-- both writers got the same bytes
abbrev pub GotAlike : {W V : Type 0} → Writing W → Writing V → Type 0
GotAlike w v = (text : List ℕ) × Wrote w.held w.failures w.old text w.new × Wrote v.held v.failures v.old text v.new

-- two runs end with one status, and both writers of the one got what those of the other did
pub record EndAlike {W V E F : Type 0} (w : Writing W) (v : Writing V) (e : Writing E) (f : Writing F) (end other : ExitStatus) : Type 0 where
  pub status_is : other ≡ end
  pub first : GotAlike w v
  pub second : GotAlike e f

-- the same, but that what the first writers got was made of the same messages: `json` and `list` may
-- write a DOUBLE by other digits. made and again say what was done with messages, and what was told
pub record MadeAlike (made again : List Placed → (told : List ℕ) → Type 0) (end other : ExitStatus) : Type 0 where
  pub status_is : other ≡ end
  pub items : List Placed
  pub told : List ℕ
  pub one : made items told
  pub same : again items told

-- both inputs are of the same packets: a line of JSON has the time of its message's packet, and so
-- has a message that is written as a packet
pub record AreOfSamePackets {R S : Type 0} (r : Reading R) (s : Reading S) : Type 0 where
  pub all : Packets
  pub one : r.packets r.old ≡ Some all
  pub same : s.packets s.old ≡ Some all

-- the same is told: the inputs are of the same packets, or nothing is refused. What is told of a
-- refused message has the packet of its fault
abbrev pub AreToldAlike : {R S : Type 0} → Reading R → Reading S → ExitStatus → Type 0
AreToldAlike r s end = AreOfSamePackets r s ⊎ (end ≡ status.Done)

-- the header of no message of these bytes that a run refuses has a DOUBLE, as far as it is whole
-- before the fault: the bytes begin with parts that are told, and the message follows these
abbrev pub HaveNoDouble : Option Packets → Settings → (n offset looked : ℕ) → (bytes : List ℕ) → Type 0
HaveNoDouble packets settings n offset looked bytes = (parts : List Part) (told rest front : List ℕ) (fault : Fault) → BeginWithParts settings.limits bytes parts rest → AreTold packets settings n offset looked parts told
    → IsFaultAtEnd settings.limits rest fault → IsFaultFront settings.limits rest front → HeaderHasNoDouble front fault

-- each refused message is told by one text: not as JSON, which may write a DOUBLE by other digits; or
-- nothing is refused; or there is none
abbrev pub TellsOne : Option Packets → Settings → (input : List ℕ) → ExitStatus → Type 0
TellsOne packets settings input end = (settings.as_json ≡ false) ⊎ ((end ≡ status.Done) ⊎ HaveNoDouble packets settings 1 0 0 input)

-- two runs by the same settings read the same input, and did not fail
pub record AreOfOneInput {R S : Type 0} (r : Reading R) (s : Reading S) (settings : Settings) (end other : ExitStatus) : Type 0 where
  pub input : ReadAlike r s
  pub told : AreToldAlike r s end
  pub one : TellsOne (r.packets r.old) settings input.0 end
  pub done : end ≢ status.Failed
  pub other_done : other ≢ status.Failed

-- they end alike: if the inputs are of the same packets, with texts of the same messages; and if the
-- command is exact, with the same bytes
abbrev pub RunAlike : {R S W V E F : Type 0} → Reading R → Reading S → Writing W → Writing V → Writing E → Writing F → Settings → (command copy : Command) → (end other : ExitStatus) → Type 0
RunAlike r s w v e f settings command copy end other =
    (AreOfSamePackets r s → MadeAlike (Writes w e settings command) (Writes v f settings copy) end other) × (IsExact command.output → AreAlike (form_of command.output) (r.packets r.old) (s.packets s.old) → EndAlike w v e f end other)

-- two runs of a command
abbrev pub OneRun : (R S W V E F : Type 0) → Type 0
OneRun R S W V E F = (r : Reading R) (s : Reading S) (w : Writing W) (v : Writing V) (e : Writing E) (f : Writing F) (settings : Settings) (most more : ℕ) (command copy : Command) (end other : ExitStatus)
    → AreSameCommand command copy → RunsWith r w e settings most command end → RunsWith s v f settings more copy other → AreOfOneInput r s settings end other
    → RunAlike r s w v e f settings command copy end other

-- two runs of a command under the same limits alone
abbrev pub OneWithin : (R S W V E F : Type 0) → Type 0
OneWithin R S W V E F = (r : Reading R) (s : Reading S) (w : Writing W) (v : Writing V) (e : Writing E) (f : Writing F) (limits : Limits) (most more : ℕ) (command copy : Command) (end other : ExitStatus)
    → AreSameCommand command copy → IsExact command.output → AreAlike (form_of command.output) (r.packets r.old) (s.packets s.old) → ReadAlike r s → AreToldAlike r s end → end ≢ status.Failed → other ≢ status.Failed → Runs r w e limits most command end → Runs s v f limits more copy other
    → EndAlike w v e f end other

-- two runs end with one status, the second writers got the same bytes, and the first ones got
-- tables of the same counts, each with the line of a span, which may be another
pub record CountAlike {W V E F : Type 0} (w : Writing W) (v : Writing V) (e : Writing E) (f : Writing F) (form : Form) (end other : ExitStatus) : Type 0 where
  pub status_is : other ≡ end
  pub tables : List ℕ
  pub span : Option Span
  pub other_span : Option Span
  pub one : Wrote w.held w.failures w.old (tables ++ span_text form span) w.new
  pub same : Wrote v.held v.failures v.old (tables ++ span_text form other_span) v.new
  pub second : GotAlike e f

-- two runs that count messages by their names, and select the same ones
abbrev pub OneCount : (R S W V E F : Type 0) → Type 0
OneCount R S W V E F = (r : Reading R) (s : Reading S) (w : Writing W) (v : Writing V) (e : Writing E) (f : Writing F) (settings : Settings) (most more : ℕ) (selection copy : Option Selection) (end other : ExitStatus)
    → AreSameSelected selection copy → CountsByName r w e settings selection most end → CountsByName s v f settings copy more other → AreOfOneInput r s settings end other
    → CountAlike w v e f (table_form settings.as_json) end other × (AreOfSamePackets r s → EndAlike w v e f end other)

-- two runs that list calls, of the same packets: a line has the time of its call's packet
abbrev pub OneCalls : (R S W V E F : Type 0) → Type 0
OneCalls R S W V E F = (r : Reading R) (s : Reading S) (w : Writing W) (v : Writing V) (e : Writing E) (f : Writing F) (settings : Settings) (wanted : Wanted) (most more : ℕ) (end other : ExitStatus)
    → ListsCalls r w e settings wanted most end → ListsCalls s v f settings wanted more other → AreOfOneInput r s settings end other
    → AreOfSamePackets r s → EndAlike w v e f end other

-- two runs that list messages, of the same packets: a line has the time of its message's packet
abbrev pub OneListing : (R S W V E F : Type 0) → Type 0
OneListing R S W V E F = (r : Reading R) (s : Reading S) (w : Writing W) (v : Writing V) (e : Writing E) (f : Writing F) (settings : Settings) (wanted : WantedLines) (most more : ℕ) (end other : ExitStatus)
    → ListsLines r w e settings wanted most end → ListsLines s v f settings wanted more other → AreOfOneInput r s settings end other
    → AreOfSamePackets r s → MadeAlike (WritesLines w e settings wanted) (WritesLines v f settings wanted) end other

-- of each list of messages `list` has lines
abbrev pub SomeLines : Type 0
SomeLines = (wanted : WantedLines) (items : List Placed) → (lines : List (List ℕ)) × AreLinesOf wanted (first_names wanted.selection) [] items lines

-- two runs that sum up calls, of the same packets
abbrev pub OneSums : (R S W V E F : Type 0) → Type 0
OneSums R S W V E F = (r : Reading R) (s : Reading S) (w : Writing W) (v : Writing V) (e : Writing E) (f : Writing F) (settings : Settings) (wanted : Wanted) (most more : ℕ) (end other : ExitStatus)
    → SumsCalls r w e settings wanted most end → SumsCalls s v f settings wanted more other → AreOfOneInput r s settings end other
    → AreOfSamePackets r s → EndAlike w v e f end other

-- The names by which `calls` knows connections are bus names.
abbrev pub TellsBusNames : Type 0
TellsBusNames = (items : List Placed) → AllByRecursion (λ x. AreNames x.names) (all_named items)

-- To go on behind messages that are refused, a run with a window looks at no more bytes than 16 for
-- each of the parts of its input and for each of the window.
abbrev pub LooksAtFew : Type 0
LooksAtFew = (packets : Option Packets) (settings : Settings) (window : ℕ) (parts : List Part) (told : List ℕ) → settings.resync ≡ Within window → AreTold packets settings 1 0 0 parts told → looked_in parts ≤ 16 * (sizes_of parts + window)
