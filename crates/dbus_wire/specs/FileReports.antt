-- What the program says of a file that holds the messages, as pcap or pcapng: how many packets it
-- passed over, and the fault of the file, if it has one.
use Rattle.std.specs.Prelude.{◌≡◌, ℕ, ◌⊎◌, ◌++◌, ◌==◌, nat_lt, ◌&&◌, ◌||◌, if◌then◌else◌, Bool, true, false, List, [], Option, Some, None, is_none, Result, Ok, Err, codes, decimal}
use Rattle.cli_options.specs.declared.asked.Asked.{Asked}
use Rattle.cli_options.specs.declared.asked.Asked.TheVariants.{Messages, Encode}
use Rattle.cli_options.specs.declared.settings.Settings.{Settings}
use Rattle.cli_options.specs.declared.usage_fault.UsageFault.{UsageFault}
use Rattle.cli_report.specs.declared.ending.Cause.TheVariants as cause
use Rattle.cli_report.specs.declared.ending.ExitStatus.{ExitStatus}
use Rattle.cli_report.specs.declared.ending.ExitStatus.TheVariants as status
use Rattle.dbus_capture.specs.CaptureTexts.{capture_reason_text}
use Rattle.dbus_capture.specs.declared.fault.CaptureFault.{CaptureFault}
use Rattle.dbus_capture.specs.declared.fault.CaptureReason.{CaptureReason}
use Rattle.dbus_capture.specs.declared.fault.CaptureReason.TheVariants.{PacketCut}
use Rattle.dbus_tool.specs.Handshaking.{Shows, StopsBy}
use Rattle.dbus_wire.specs.declared.file_report.FileEnd.{FileEnd}
use Rattle.dbus_wire.specs.declared.file_report.Telling.{Telling}
use Rattle.dbus_wire.specs.declared.file_report.Telling.TheVariants.{Text, Explained, Json}

-- standard input is lines: the words ask for `encode`
abbrev pub takes_lines : Result Asked UsageFault → Bool
takes_lines (Ok (Encode wanted)) = true
takes_lines answer = false

-- the settings of the command over messages that they ask for
abbrev pub settings_of : Result Asked UsageFault → Option Settings
settings_of (Ok (Messages request)) = Some request.settings
settings_of answer = None

-- how many packets were passed over, if any were: as text, or as an object of JSON
abbrev pub count_line : ℕ → (as_json : Bool) → (member packet : List ℕ) → List ℕ
count_line count as_json member packet =
    if count == 0 then []
    else if as_json then codes "{\"" ++ (member ++ (codes "\":" ++ (decimal count ++ codes "}\n")))
    else if count == 1 then codes "capture: 1 " ++ (packet ++ codes " passed over\n")
    else codes "capture: " ++ (decimal count ++ (codes " " ++ (packet ++ codes "s passed over\n")))

-- the reason, and the place from the start of the file
abbrev pub fault_line : Option CaptureFault → (as_json : Bool) → List ℕ
fault_line None as_json = []
fault_line (Some fault) true = codes "{\"capture_refused\":\"" ++ (capture_reason_text fault.reason ++ (codes "\",\"file_offset\":" ++ (decimal fault.at ++ codes "}\n")))
fault_line (Some fault) false = codes "capture refused at " ++ (decimal fault.at ++ (codes ": " ++ (capture_reason_text fault.reason ++ codes "\n")))

-- a packet was cut
abbrev pub is_cut : CaptureReason → Bool
is_cut PacketCut = true
is_cut reason = false

abbrev pub is_fault_of_cut : Option CaptureFault → Bool
is_fault_of_cut None = false
is_fault_of_cut (Some fault) = is_cut fault.reason

abbrev pub has_cut : FileEnd → Bool
has_cut end = nat_lt 0 end.cut || is_fault_of_cut end.fault

-- the form that a command's settings ask for
abbrev pub form_of : Settings → Telling
form_of settings = if settings.as_json then Json else if settings.explains then Explained else Text

abbrev pub is_json : Telling → Bool
is_json Json = true
is_json form = false

-- what to do about packets that were cut, if that is to be said
abbrev pub advice : FileEnd → Telling → List ℕ
advice end Explained = if has_cut end then codes "  busctl captures 4,096 bytes of a message, and all with --size=128M\n" else []
advice end form = []

abbrev pub file_text : FileEnd → Telling → List ℕ
file_text end form =
    count_line end.cut (is_json form) (codes "cut_packets") (codes "cut packet")
    ++ (count_line end.others (is_json form) (codes "non_dbus_packets") (codes "non-D-Bus packet") ++ (fault_line end.fault (is_json form) ++ advice end form))

-- all packets of the file were read, and it has no fault
abbrev pub is_whole : FileEnd → Bool
is_whole end = end.cut == 0 && (end.others == 0 && is_none end.fault)

-- the status if nothing else is refused
abbrev pub status_of : FileEnd → ExitStatus
status_of end = if end.cut == 0 && is_none end.fault then status.Done else status.Refused

module _ {E : Type 0} (held : E → Option (List ℕ)) (failures : E → ℕ) (old new : E) where
  -- the lines were written, or a write failed; or memory ran out
  abbrev pub TellsLines : FileEnd → Telling → (before after : ExitStatus) → Type 0
  TellsLines end form before after = Shows held failures old new before (file_text end form) after ⊎ StopsBy held failures old new cause.Memory after

  -- after a run that ended so: nothing if the run failed or if the command line is wrong
  abbrev pub TellsAfter : (whole : Bool) → FileEnd → Telling → (before after : ExitStatus) → Type 0
  TellsAfter true end form before after = (new ≡ old) × (after ≡ before)
  TellsAfter false end form status.Done after = TellsLines end form (status_of end) after
  TellsAfter false end form status.Refused after = TellsLines end form status.Refused after
  TellsAfter false end form status.Usage after = (new ≡ old) × (after ≡ status.Usage)
  TellsAfter false end form status.Failed after = (new ≡ old) × (after ≡ status.Failed)

  -- nor if all packets were read and there is no fault
  abbrev pub TellsFile : FileEnd → Telling → (before after : ExitStatus) → Type 0
  TellsFile end form before after = TellsAfter (is_whole end) end form before after
