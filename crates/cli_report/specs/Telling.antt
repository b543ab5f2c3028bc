-- What is told of a message that is refused, by its bytes as far as they are there: by those that show
-- its fault.
use Rattle.std.specs.Prelude.{ℕ, List, [], ◌++◌, codes, decimal, ◌≡◌, ◌+◌, Bool, true, false, ◌⊎◌, Option, None, Some}
use Rattle.dbus_value_model.specs.declared.fault.Reason.{Reason}
use Rattle.dbus_value_model.specs.FaultTexts.{reason_text}
use Rattle.dbus_explain.specs.Explained.{IsExplained}
use Rattle.dbus_explain.specs.Members.{AreMembersOf}
use Rattle.dbus_explain.specs.declared.message.Refused.{Refused}
use Rattle.dbus_device.specs.Device.{Wrote, Stopped}
use Rattle.dbus_value_model.specs.declared.limits.Limits.{Limits}
use Rattle.cli_report.specs.FaultFronts.{IsFaultFront}
use Rattle.cli_report.specs.declared.ending.Cause.{Cause}
use Rattle.cli_report.specs.declared.ending.Cause.TheVariants.{Memory, ReadFailed, WriteFailed, TooManyReads}
use Rattle.cli_report.specs.declared.telling.RefusedMessage.{RefusedMessage}
use Rattle.cli_report.specs.declared.ending.ExitStatus.{ExitStatus}
use Rattle.cli_report.specs.declared.ending.ExitStatus.TheVariants as status

-- The lines of a fault, and of a cause.

-- the number of its packet, if it is of one
abbrev pub in_packet : Option ℕ → List ℕ
in_packet None = []
in_packet (Some number) = codes " in packet " ++ decimal number

-- the offset of a fault and its reason, and its packet
abbrev pub refused_line : ℕ → Reason → Option ℕ → List ℕ
refused_line place why packet = codes "refused at " ++ (decimal place ++ (codes ": " ++ (reason_text why ++ (in_packet packet ++ codes "\n"))))

abbrev pub cause_line : Cause → List ℕ
cause_line Memory = codes "out of memory\n"
cause_line ReadFailed = codes "read failed\n"
cause_line WriteFailed = codes "write failed\n"
cause_line TooManyReads = codes "too many reads\n"

-- the fault's place in the input and its reason; if the run goes on after it, the message's number
-- there, and where the message begins; and the packet of the fault
abbrev pub line_of : (goes_on : Bool) → RefusedMessage → List ℕ
line_of false refusal = refused_line (refusal.offset + refusal.fault.at) refusal.fault.reason refusal.packet
line_of true refusal = codes "refused at " ++ (decimal (refusal.offset + refusal.fault.at) ++ (codes ": " ++ (reason_text refusal.fault.reason
    ++ (codes " in message " ++ (decimal refusal.number ++ (codes " at " ++ (decimal refusal.offset ++ (in_packet refusal.packet ++ codes "\n"))))))))

-- this explains it in a form, by the bytes that show its fault
pub record Explains (Is : Refused → List ℕ → Type 0) (limits : Limits) (refusal : RefusedMessage) (bytes text : List ℕ) : Type 0 where
  pub refused : Refused
  pub bytes_are : IsFaultFront limits bytes refused.bytes.now
  pub fault_is : refused.fault ≡ refusal.fault
  pub number_is : refused.number ≡ refusal.number
  pub offset_is : refused.offset ≡ refusal.offset
  pub explained : Is refused text

-- its line, and then those that explain it, if that is wanted
abbrev pub IsToldBy : (goes_on explains : Bool) → Limits → RefusedMessage → (bytes text : List ℕ) → Type 0
IsToldBy goes_on false limits refusal bytes text = text ≡ line_of goes_on refusal
IsToldBy goes_on true limits refusal bytes text = (explained : List ℕ) × Explains IsExplained limits refusal bytes explained × (text ≡ line_of goes_on refusal ++ explained)

-- the number of its packet as a member of an object, if it is of one
abbrev pub packet_member : Option ℕ → List ℕ
packet_member None = []
packet_member (Some number) = codes ",\"packet\":" ++ decimal number

-- A line of JSON: an object of the fault and its place in the input, of the message's number and
-- where it begins, of its packet, and of what explains it.
pub record IsJsonRefusal (limits : Limits) (refusal : RefusedMessage) (bytes text : List ℕ) : Type 0 where
  pub members : List ℕ
  pub explains : Explains AreMembersOf limits refusal bytes members
  pub is : text ≡ codes "{\"refused\":\"" ++ (reason_text refusal.fault.reason ++ (codes "\",\"offset\":" ++ (decimal (refusal.offset + refusal.fault.at)
      ++ (codes ",\"message\":" ++ (decimal refusal.number ++ (codes ",\"begins\":" ++ (decimal refusal.offset ++ (packet_member refusal.packet
      ++ (codes "," ++ (members ++ codes "}\n"))))))))))

-- How a run ends, and what is told of one that fails.

abbrev pub exit_code : ExitStatus → ℕ
exit_code status.Done = 0
exit_code status.Refused = 1
exit_code status.Usage = 2
exit_code status.Failed = 3

-- the second writer was told the cause, or a write failed after the first bytes of that
abbrev pub Told : {E : Type 0} → (E → Option (List ℕ)) → (E → ℕ) → E → E → Cause → Type 0
Told held failures old new cause = Wrote held failures old (cause_line cause) new ⊎ ((n : ℕ) × Stopped held failures old (cause_line cause) n new)
