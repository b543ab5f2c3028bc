-- The texts of a fault and of its reason.
use Rattle.std.specs.Prelude.{ℕ, List, ◌++◌, codes, decimal}
use Rattle.dbus_value_model.specs.declared.fault.Fault.{Fault}
use Rattle.dbus_value_model.specs.declared.fault.Reason.{Reason}
use Rattle.dbus_value_model.specs.declared.fault.Reason.TheVariants as reason

-- the name of a reason, with the code of the field where one is missing
abbrev pub reason_text : Reason → List ℕ
reason_text reason.ByteOrder = codes "ByteOrder"
reason_text reason.Kind = codes "Kind"
reason_text reason.Version = codes "Version"
reason_text reason.ZeroSerial = codes "ZeroSerial"
reason_text reason.ArrayTooLong = codes "ArrayTooLong"
reason_text reason.MessageTooLong = codes "MessageTooLong"
reason_text reason.Padding = codes "Padding"
reason_text reason.Overrun = codes "Overrun"
reason_text reason.Bool = codes "Bool"
reason_text reason.Text = codes "Text"
reason_text reason.Nul = codes "Nul"
reason_text reason.Path = codes "Path"
reason_text reason.Signature = codes "Signature"
reason_text reason.Interface = codes "Interface"
reason_text reason.Member = codes "Member"
reason_text reason.ErrorName = codes "ErrorName"
reason_text reason.BusName = codes "BusName"
reason_text reason.NameTooLong = codes "NameTooLong"
reason_text reason.FieldCode = codes "FieldCode"
reason_text reason.FieldTwice = codes "FieldTwice"
reason_text reason.FieldType = codes "FieldType"
reason_text (reason.FieldMissing code) = codes "FieldMissing(" ++ (decimal code ++ codes ")")
reason_text reason.Trailing = codes "Trailing"
reason_text reason.TooDeep = codes "TooDeep"
reason_text reason.Truncated = codes "Truncated"
reason_text reason.FdIndex = codes "FdIndex"
reason_text reason.NotYet = codes "NotYet"

-- the reason and the offset
abbrev pub fault_text : Fault → List ℕ
fault_text f = reason_text f.reason ++ (codes " at offset " ++ decimal f.at)
