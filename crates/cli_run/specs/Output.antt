-- What a command writes of the messages of its input and the fault after them.
use Rattle.std.specs.Prelude.{◌≡◌, ℕ, zero, suc, ◌+◌, ◌⊎◌, Bool, true, false, ◌&&◌, not, List, [], ◌∷◌, ◌++◌, length, Option, None, Some, codes, decimal, ◌-◌, take, drop, option_map}
use Rattle.std.specs.List.{concat}
use Rattle.dbus_device.specs.Packets.{Packets}
use Rattle.dbus_value_model.specs.declared.fault.Fault.{Fault}
use Rattle.dbus_value_model.specs.declared.limits.Limits.{Limits}
use Rattle.dbus_value_model.specs.declared.order.Order.{Order}
use Rattle.dbus_message_model.specs.Messages.{MessageTree, message_bytes}
use Rattle.dbus_stream.specs.Cut.{CutMessage}
use Rattle.dbus_stream.specs.CutEnds.{sizes}
use Rattle.dbus_pcap.specs.Written.{packet_of, written_header}
use Rattle.dbus_capture.specs.PcapFiles.{header_bytes, packet_header_bytes}
use Rattle.dbus_show.specs.Escapes.{visible}
use Rattle.dbus_show.specs.ShownMessages.{message_text}
use Rattle.dbus_json.specs.JsonIntegers.{integers_of}
use Rattle.dbus_json.specs.JsonMessages.{IsJsonLine}
use Rattle.dbus_json.specs.Times.{seconds_text}
use Rattle.dbus_json.specs.declared.place.LinePlace.{LinePlace}
use Rattle.dbus_names.specs.NameStates.{NameState}
use Rattle.cli_options.specs.declared.file_form.FileForm.{FileForm}
use Rattle.cli_options.specs.declared.file_form.FileForm.TheVariants.{AsRead, Raw}
use Rattle.cli_options.specs.declared.command.Command.{Command}
use Rattle.cli_options.specs.declared.command.Output.{Output}
use Rattle.cli_options.specs.declared.command.Output.TheVariants.{AsIs, InOrder, JsonLine, Nothing, Text}
use Rattle.cli_options.specs.declared.selection.Selection.{Selection}
use Rattle.cli_report.specs.Gathering.{IsPrefixTo}
use Rattle.cli_report.specs.Telling.{refused_line}
use Rattle.cli_report.specs.declared.ending.ExitStatus.{ExitStatus}
use Rattle.cli_report.specs.declared.ending.ExitStatus.TheVariants as status
use Rattle.cli_options.specs.declared.window.Window.{Window}
use Rattle.cli_run.specs.Inputs.{ArePlaced, Placed, wholes}
use Rattle.cli_run.specs.Learning.{Selects, known, known_after, known_after_all}
use Rattle.cli_run.specs.Refusals.{IsFaultIn}
use Rattle.cli_run.specs.Told.{first_of, second_of}
use Rattle.cli_run.specs.declared.place.MessagePlace.{MessagePlace}

-- nothing is written of a message, by `check`, which tells the first writer of a fault
abbrev pub is_check : Output → Bool
is_check Nothing = true
is_check output = false

-- what a command knows of the owners of names after messages, if it knew this before
abbrev pub owners_after_all : Command → NameState → List Placed → NameState
owners_after_all command = known_after_all command.selection

-- a text is made of a message that is selected, if one is to be written
abbrev pub PicksBy : Output → Option Selection → NameState → MessageTree → Type 0
PicksBy Nothing selection os message = ⊥
PicksBy output selection os message = Selects selection os message

abbrev pub Picks : Command → NameState → MessageTree → Type 0
Picks command os message = PicksBy command.output command.selection os message

-- the time of a message, if times are wanted
abbrev pub time_if : Bool → Option ℕ → Option ℕ
time_if true time = time
time_if false time = None

-- the place of a message as it is told: without its time, unless times are wanted
abbrev pub told_place : (times : Bool) → MessagePlace → MessagePlace
told_place times place = record { number = place.number; offset = place.offset; time = time_if times place.time; in_packet = place.in_packet }

-- what stands before the text of a message: its time and a space, if it has one
abbrev pub time_text : Option ℕ → List ℕ
time_text None = []
time_text (Some nanoseconds) = seconds_text nanoseconds ++ codes " "

-- the text of a message after its time, if it has one
abbrev pub shown_text : Order → MessageTree → MessagePlace → List ℕ
shown_text order message place = time_text place.time ++ message_text order message place.number

-- a text as it is, or with its hidden characters escaped, if that is wanted
abbrev pub seen_if : (escapes : Bool) → List ℕ → List ℕ
seen_if true text = visible text
seen_if false text = text

-- the form in which messages are written; if none are, it is raw
abbrev pub form_of : Output → FileForm
form_of (InOrder wanted form) = form
form_of (AsIs form) = form
form_of output = Raw

-- a message is written as a packet of a pcap file: it came in a packet, and is written as it is
-- read
abbrev pub is_framed : FileForm → MessagePlace → Bool
is_framed Raw place = false
is_framed AsRead place = place.in_packet

-- the header of the packet that its bytes are, or nothing
abbrev pub frame_if : Bool → (time : Option ℕ) → List ℕ → List ℕ
frame_if true time bytes = packet_header_bytes written_header.order (packet_of (record { time = time; bytes = bytes }))
frame_if false time bytes = []

-- its bytes as they are written
abbrev pub framed : Bool → (time : Option ℕ) → List ℕ → List ℕ
framed b time bytes = frame_if b time bytes ++ bytes

-- the header of a file, or nothing
abbrev pub header_if : Bool → List ℕ
header_if true = header_bytes written_header
header_if false = []

-- the header is written before all that is made of messages, if the first of them is written as a
-- packet; begun says whether one came before it
abbrev pub begins_file : FileForm → MessagePlace → (begun : Bool) → Bool
begins_file form place begun = is_framed form place && not begun

abbrev pub header_before : FileForm → (begun : Bool) → List Placed → List ℕ
header_before form begun [] = []
header_before form begun (m ∷ items) = header_if (begins_file form m.place begun)

-- a message was looked at, before these or among them
abbrev pub begun_after : Bool → List Placed → Bool
begun_after begun [] = begun
begun_after begun (m ∷ items) = true

-- what a line says of where its message stands
abbrev pub line_place : MessagePlace → LinePlace
line_place place = record { number = place.number; offset = place.offset; time = place.time }

-- that text, if the message has this place in its input
abbrev pub IsTextOf : Output → Order → MessageTree → MessagePlace → List ℕ → Type 0
IsTextOf (Text times escapes) order message place text = text ≡ seen_if escapes (shown_text order message (told_place times place))
IsTextOf (JsonLine times safe) order message place text = IsJsonLine (integers_of safe) order message (line_place (told_place times place)) text
IsTextOf Nothing order message place text = text ≡ []
IsTextOf (InOrder wanted form) order message place text = text ≡ framed (is_framed form place) place.time (message_bytes wanted message)
IsTextOf (AsIs form) order message place text = text ≡ framed (is_framed form place) place.time (message_bytes order message)

-- the texts that a command makes of one message: one if it picks it, else none
abbrev pub IsOutputOf : Command → NameState → Order → MessageTree → MessagePlace → List (List ℕ) → Type 0
IsOutputOf command os order message place texts =
    (Picks command os message × (text : List ℕ) × IsTextOf command.output order message place text × (texts ≡ text ∷ []))
    ⊎ ((Picks command os message → ⊥) × (texts ≡ []))

-- those that it makes of several, one after the other, if it knows this before
abbrev pub IsOutputOfAll : Command → NameState → List Placed → List (List ℕ) → Type 0
IsOutputOfAll command os [] texts = texts ≡ []
IsOutputOfAll command os (m ∷ items) texts = (one : List (List ℕ)) × (more : List (List ℕ)) × (texts ≡ one ++ more)
    × IsOutputOf command os m.item.order m.item.message m.place one × IsOutputOfAll command (known_after command.selection os m.item.message) items more

-- all that is written of messages: these texts are made of them, and the header comes first
abbrev pub whole_output : FileForm → List Placed → List (List ℕ) → List ℕ
whole_output form items texts = header_before form false items ++ concat texts

-- the messages, with their times if they are written as packets, and the fault after them determine
-- each byte that is written: no other time, which their packets have, and no DOUBLE of
-- `json`, which may be any digits that read back as its bits
abbrev pub IsExact : Output → Type 0
IsExact (Text true escapes) = ⊥
IsExact (JsonLine times safe) = ⊥
IsExact output = Unit {0}

-- the packets of two inputs are known and the same, if they matter to this form
abbrev pub AreAlike : FileForm → Option Packets → Option Packets → Type 0
AreAlike Raw packets others = Unit {0}
AreAlike AsRead packets others = (all : Packets) × (packets ≡ Some all) × (others ≡ Some all)

-- how many messages of how many bytes there are
abbrev pub ok_line : ℕ → ℕ → List ℕ
ok_line count size = codes "ok " ++ (decimal count ++ (codes " messages " ++ (decimal size ++ codes " bytes\n")))

-- how many messages of how many bytes, or the fault, whose place counts from the start of the
-- input, with the number of its packet
abbrev pub check_line : ℕ → ℕ → Option Fault → (packet : Option ℕ) → List ℕ
check_line count size None packet = ok_line count size
check_line count size (Some fault) packet = refused_line (size + fault.at) fault.reason packet

-- what is written after so many messages of so many bytes: only `check` writes a line there
abbrev pub last_line : Command → ℕ → ℕ → Option Fault → (packet : Option ℕ) → List ℕ
last_line command count size fault packet = first_of (is_check command.output) [] (check_line count size fault packet)

-- what the first writer gets, if the bytes of the input are of these packets, and its fault of the
-- one of this number
pub record IsFirstOutput (packets : Option Packets) (command : Command) (items : List CutMessage) (fault : Option Fault) (packet : Option ℕ) (out : List ℕ) : Type 0 where
  pub messages : List Placed
  pub placed : ArePlaced packets 1 0 (wholes items) messages
  pub texts : List (List ℕ)
  pub each : IsOutputOfAll command (known command.selection None) messages texts
  pub joined : out ≡ whole_output (form_of command.output) messages texts ++ last_line command (length items) (sizes items) fault packet

-- a prefix of what the first writer gets of an input that these messages begin, and then the rest
pub record IsFront (packets : Option Packets) (limits : Limits) (command : Command) (items : List CutMessage) (rest : List ℕ) (fault : Option Fault) (front : List ℕ) : Type 0 where
  pub packet : Option ℕ
  pub out : List ℕ
  pub output : IsFirstOutput packets command items fault packet out
  pub prefix : IsPrefixTo front out
  -- a line of the fault that was begun has its packet
  pub packet_is : IsPrefixTo front (whole_output (form_of command.output) output.messages output.texts) ⊎ IsFaultIn packets limits (sizes items) rest fault packet

abbrev pub fault_line : ℕ → Option Fault → (packet : Option ℕ) → List ℕ
fault_line size None packet = []
fault_line size (Some fault) packet = refused_line (size + fault.at) fault.reason packet

-- what the second writer gets: the fault, which `check` tells the first
abbrev pub second_output : Command → ℕ → Option Fault → (packet : Option ℕ) → List ℕ
second_output command size fault packet = second_of (is_check command.output) (fault_line size fault packet)

abbrev pub status_of : Option Fault → ExitStatus
status_of None = status.Done
status_of (Some fault) = status.Refused

-- What a window lets through of the texts that a command makes: the first are skipped, and at most
-- so many after these are written.

-- so many of a list at most, or all
abbrev pub at_most : {A : Type 0} → Option ℕ → List A → List A
at_most None list = list
at_most (Some limit) list = take limit list

-- the texts that are written, one after the other
unfoldable pub written : Window → List (List ℕ) → List ℕ
written window texts = concat (at_most window.limit (drop window.skip texts))

-- what is written of messages, if these texts are made of them: the header, and then what the
-- window lets through
abbrev pub output_of : FileForm → (begun : Bool) → Window → List Placed → List (List ℕ) → List ℕ
output_of form begun window items texts = header_before form begun items ++ written window texts

-- the window for the texts after so many
abbrev pub after : Window → ℕ → Window
after window n = record { skip = window.skip - n; limit = option_map (λ limit. limit - (n - window.skip)) window.limit; checks_rest = window.checks_rest }

-- nothing more is wanted under a window that lets so many texts through: it lets none, and the rest
-- is not to be checked
abbrev is_spent_by : (limit : Option ℕ) → (checks_rest : Bool) → Bool
is_spent_by None checks_rest = false
is_spent_by (Some zero) checks_rest = not checks_rest
is_spent_by (Some (suc n)) checks_rest = false

abbrev pub is_spent : Window → Bool
is_spent window = is_spent_by window.limit window.checks_rest

-- no more messages are wanted under this window. `check` wants all
abbrev pub is_filled : Output → Window → Bool
is_filled output window = is_spent window && not (is_check output)

-- this says whether a command wants no more messages after these
abbrev pub IsFilledBy : Command → Window → List Placed → Bool → Type 0
IsFilledBy command window items filled = (texts : List (List ℕ)) × IsOutputOfAll command (known command.selection None) items texts × (is_filled command.output (after window (length texts)) ≡ filled)

-- a text, or nothing
abbrev pub text_if : Bool → List ℕ → List ℕ
text_if true text = text
text_if false text = []
