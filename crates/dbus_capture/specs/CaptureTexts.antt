-- The texts of the fault of a capture and of its reason.
use Rattle.std.specs.Prelude.{ℕ, List, ◌++◌, codes, decimal}
use Rattle.dbus_capture.specs.Types.{CaptureFault, CaptureReason}
use Rattle.dbus_capture.specs.declared.fault.CaptureReason.TheVariants as reason

-- the name of a reason
abbrev pub capture_reason_text : CaptureReason → List ℕ
capture_reason_text reason.Magic = codes "Magic"
capture_reason_text reason.Version = codes "Version"
capture_reason_text reason.LinkType = codes "LinkType"
capture_reason_text reason.Lengths = codes "Lengths"
capture_reason_text reason.PacketCut = codes "PacketCut"
capture_reason_text reason.BlockLength = codes "BlockLength"
capture_reason_text reason.BlockLengths = codes "BlockLengths"
capture_reason_text reason.OrderMark = codes "OrderMark"
capture_reason_text reason.OptionLength = codes "OptionLength"
capture_reason_text reason.TooManyInterfaces = codes "TooManyInterfaces"
capture_reason_text reason.NoInterface = codes "NoInterface"
capture_reason_text reason.Truncated = codes "Truncated"

-- the reason and the place
abbrev pub capture_fault_text : CaptureFault → List ℕ
capture_fault_text fault = capture_reason_text fault.reason ++ (codes " at offset " ++ decimal fault.at)
