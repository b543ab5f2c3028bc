-- The numbers of the reasons why bytes are refused.
-- docs/WIRE-FORMAT.md, "Faults".
use Rattle.std.specs.Prelude.{◌≡◌, ℕ, List, [], ◌++◌, codes, decimal, nat_eq, if◌then◌else◌}
use Rattle.dbus_value_model.specs.declared.fault.Reason.{Reason}
use Rattle.dbus_value_model.specs.declared.fault.Reason.TheVariants as reason
use Rattle.dbus_value_model.specs.FaultTexts.{reason_text}

abbrev pub reason_number : Reason → ℕ
reason_number reason.ByteOrder = 1
reason_number reason.Kind = 2
reason_number reason.Version = 3
reason_number reason.ZeroSerial = 4
reason_number reason.ArrayTooLong = 5
reason_number reason.MessageTooLong = 6
reason_number reason.Padding = 7
reason_number reason.Overrun = 8
reason_number reason.Bool = 9
reason_number reason.Text = 10
reason_number reason.Nul = 11
reason_number reason.Path = 12
reason_number reason.Signature = 13
reason_number reason.Interface = 14
reason_number reason.Member = 15
reason_number reason.ErrorName = 16
reason_number reason.BusName = 17
reason_number reason.NameTooLong = 18
reason_number reason.FieldCode = 19
reason_number reason.FieldTwice = 20
reason_number reason.FieldType = 21
reason_number (reason.FieldMissing code) = 22
reason_number reason.Trailing = 23
reason_number reason.TooDeep = 24
reason_number reason.Truncated = 25
reason_number reason.FdIndex = 26
reason_number reason.NotYet = 27

-- the code of the field that is missing; where that is not the reason, 0, which is no field's code
abbrev pub field_named : Reason → ℕ
field_named (reason.FieldMissing code) = code
field_named _ = 0

-- Reasons that have one number and name one field are the same.
abbrev pub OneNumber : Type 0
OneNumber = (one other : Reason) → reason_number one ≡ reason_number other → field_named one ≡ field_named other → one ≡ other

-- The names of the reasons, by their numbers: from 28 on those why lines of JSON alone are refused.
-- docs/WIRE-FORMAT.md, "Faults".

-- the name of the reason of this number, or nothing where there is none
abbrev pub name_at : ℕ → List ℕ
name_at n =
    if nat_eq n 1 then codes "ByteOrder" else if nat_eq n 2 then codes "Kind" else if nat_eq n 3 then codes "Version"
    else if nat_eq n 4 then codes "ZeroSerial" else if nat_eq n 5 then codes "ArrayTooLong" else if nat_eq n 6 then codes "MessageTooLong"
    else if nat_eq n 7 then codes "Padding" else if nat_eq n 8 then codes "Overrun" else if nat_eq n 9 then codes "Bool"
    else if nat_eq n 10 then codes "Text" else if nat_eq n 11 then codes "Nul" else if nat_eq n 12 then codes "Path"
    else if nat_eq n 13 then codes "Signature" else if nat_eq n 14 then codes "Interface" else if nat_eq n 15 then codes "Member"
    else if nat_eq n 16 then codes "ErrorName" else if nat_eq n 17 then codes "BusName" else if nat_eq n 18 then codes "NameTooLong"
    else if nat_eq n 19 then codes "FieldCode" else if nat_eq n 20 then codes "FieldTwice" else if nat_eq n 21 then codes "FieldType"
    else if nat_eq n 22 then codes "FieldMissing" else if nat_eq n 23 then codes "Trailing" else if nat_eq n 24 then codes "TooDeep"
    else if nat_eq n 25 then codes "Truncated" else if nat_eq n 26 then codes "FdIndex" else if nat_eq n 27 then codes "NotYet"
    else if nat_eq n 28 then codes "NotUtf8" else if nat_eq n 29 then codes "NotJson" else if nat_eq n 30 then codes "Form"
    else if nat_eq n 31 then codes "MemberUnknown" else if nat_eq n 32 then codes "MemberTwice" else if nat_eq n 33 then codes "TypeMissing"
    else if nat_eq n 34 then codes "ValueMissing" else if nat_eq n 35 then codes "CodeMissing" else if nat_eq n 36 then codes "BodyMissing"
    else if nat_eq n 37 then codes "Order" else if nat_eq n 38 then codes "FieldKnown" else if nat_eq n 39 then codes "FieldPlace"
    else if nat_eq n 40 then codes "NotInteger" else if nat_eq n 41 then codes "Range" else if nat_eq n 42 then codes "Digits"
    else if nat_eq n 43 then codes "Count" else if nat_eq n 44 then codes "MayBeRounded" else []

-- what stands after a reason's name in its text: of a missing field its code
abbrev pub code_text : Reason → List ℕ
code_text (reason.FieldMissing code) = codes "(" ++ (decimal code ++ codes ")")
code_text _ = []

-- The text of a reason is the name at its number, and the code of the field that is missing.
abbrev pub NamesAreTexts : Type 0
NamesAreTexts = (r : Reason) → reason_text r ≡ name_at (reason_number r) ++ code_text r
