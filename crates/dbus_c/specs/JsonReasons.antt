-- The numbers of the reasons why a line of JSON spells no message: those of the reasons of the same
-- names why bytes are refused, and further ones.
use Rattle.std.specs.Prelude.{◌≡◌, ℕ, List, [], ◌++◌, codes, decimal}
use Rattle.dbus_json_reader.specs.JsonReasons.{json_reason_text}
use Rattle.dbus_json_reader.specs.declared.reasons.JsonReason.{JsonReason}
use Rattle.dbus_json_reader.specs.declared.reasons.JsonReason.TheVariants as reason
use Rattle.dbus_c.specs.Reasons.{name_at}

abbrev pub json_reason_number : JsonReason → ℕ
json_reason_number reason.NotUtf8 = 28
json_reason_number reason.NotJson = 29
json_reason_number reason.Form = 30
json_reason_number reason.MemberUnknown = 31
json_reason_number reason.MemberTwice = 32
json_reason_number reason.TypeMissing = 33
json_reason_number reason.ValueMissing = 34
json_reason_number reason.CodeMissing = 35
json_reason_number reason.BodyMissing = 36
json_reason_number reason.Order = 37
json_reason_number reason.Kind = 2
json_reason_number reason.ZeroSerial = 4
json_reason_number reason.FieldCode = 19
json_reason_number reason.FieldKnown = 38
json_reason_number reason.FieldPlace = 39
json_reason_number reason.NotInteger = 40
json_reason_number reason.Range = 41
json_reason_number reason.MayBeRounded = 44
json_reason_number reason.Digits = 42
json_reason_number reason.Count = 43
json_reason_number reason.Text = 10
json_reason_number reason.Path = 12
json_reason_number reason.Signature = 13
json_reason_number reason.Interface = 14
json_reason_number reason.Member = 15
json_reason_number reason.ErrorName = 16
json_reason_number reason.BusName = 17
json_reason_number reason.TooDeep = 24
json_reason_number (reason.FieldMissing code) = 22
json_reason_number reason.ArrayTooLong = 5
json_reason_number reason.MessageTooLong = 6
json_reason_number reason.FdIndex = 26

-- the code of the field that is missing; if that is not the reason, 0, which is no field's code
abbrev pub json_field_named : JsonReason → ℕ
json_field_named (reason.FieldMissing code) = code
json_field_named _ = 0

-- what stands after a reason's name in its text: of a missing field its code
abbrev pub json_code_text : JsonReason → List ℕ
json_code_text (reason.FieldMissing code) = codes "(" ++ (decimal code ++ codes ")")
json_code_text _ = []

-- Reasons that have one number and name one field are the same.
abbrev pub OneJsonNumber : Type 0
OneJsonNumber = (one other : JsonReason) → json_reason_number one ≡ json_reason_number other → json_field_named one ≡ json_field_named other → one ≡ other

-- The text of a reason is the name at its number, and the code of the field that is missing.
abbrev pub JsonNamesAreTexts : Type 0
JsonNamesAreTexts = (r : JsonReason) → json_reason_text r ≡ name_at (json_reason_number r) ++ json_code_text r
