-- The names of the reasons why JSON spells no value or no message.
use Rattle.std.specs.Prelude.{ℕ, List, ◌++◌, Bool, true, false, codes, decimal}
use Rattle.dbus_json_reader.specs.declared.reasons.JsonReason.{JsonReason}
use Rattle.dbus_json_reader.specs.declared.reasons.JsonReason.TheVariants as reason

-- its name, with the code of the field if one is missing
abbrev pub json_reason_text : JsonReason → List ℕ
json_reason_text reason.NotUtf8 = codes "NotUtf8"
json_reason_text reason.NotJson = codes "NotJson"
json_reason_text reason.Form = codes "Form"
json_reason_text reason.MemberUnknown = codes "MemberUnknown"
json_reason_text reason.MemberTwice = codes "MemberTwice"
json_reason_text reason.TypeMissing = codes "TypeMissing"
json_reason_text reason.ValueMissing = codes "ValueMissing"
json_reason_text reason.CodeMissing = codes "CodeMissing"
json_reason_text reason.BodyMissing = codes "BodyMissing"
json_reason_text reason.Order = codes "Order"
json_reason_text reason.Kind = codes "Kind"
json_reason_text reason.ZeroSerial = codes "ZeroSerial"
json_reason_text reason.FieldCode = codes "FieldCode"
json_reason_text reason.FieldKnown = codes "FieldKnown"
json_reason_text reason.FieldPlace = codes "FieldPlace"
json_reason_text reason.NotInteger = codes "NotInteger"
json_reason_text reason.Range = codes "Range"
json_reason_text reason.MayBeRounded = codes "MayBeRounded"
json_reason_text reason.Digits = codes "Digits"
json_reason_text reason.Count = codes "Count"
json_reason_text reason.Text = codes "Text"
json_reason_text reason.Path = codes "Path"
json_reason_text reason.Signature = codes "Signature"
json_reason_text reason.Interface = codes "Interface"
json_reason_text reason.Member = codes "Member"
json_reason_text reason.ErrorName = codes "ErrorName"
json_reason_text reason.BusName = codes "BusName"
json_reason_text reason.TooDeep = codes "TooDeep"
json_reason_text (reason.FieldMissing code) = codes "FieldMissing(" ++ (decimal code ++ codes ")")
json_reason_text reason.ArrayTooLong = codes "ArrayTooLong"
json_reason_text reason.MessageTooLong = codes "MessageTooLong"
json_reason_text reason.FdIndex = codes "FdIndex"

-- a value of JSON shows it: it is not why a line is no JSON
abbrev pub is_of_json : JsonReason → Bool
is_of_json reason.NotUtf8 = false
is_of_json reason.NotJson = false
is_of_json other = true
