-- The names of places in a message.
-- D-Bus Specification, "Message Format" and "Header Fields".
use Rattle.std.specs.Prelude.{◌≡◌, ℕ, ◌<◌, ◌≤◌, List, [], ◌∷◌, ◌++◌, Bool, true, false, nat_eq, nat_lt, ◌&&◌, if◌then◌else◌, codes, decimal, Option, None, Some}
use Rattle.std.specs.List.{flat_map}
use Rattle.dbus_value_model.specs.declared.fault.Reason.{Reason}
use Rattle.dbus_value_model.specs.declared.fault.Reason.TheVariants.{FieldMissing}
use Rattle.dbus_show.specs.ShownMessages.{field_name}
use Rattle.dbus_show.specs.ShownValues.{quoted}
use Rattle.dbus_texts.specs.Types.{TypeTree, TypeTrees}
use Rattle.dbus_explain.specs.Places.{AreBodyTypes, IsAmong, IsAmongNone, IsInField, IsInFieldText, IsInText, IsWholePath, body_begin, fields_end}
use Rattle.dbus_explain.specs.declared.search.StatedText.{StatedText}
use Rattle.dbus_explain.specs.declared.path.PathStep.{PathStep}
use Rattle.dbus_explain.specs.declared.path.PathStep.TheVariants.{Number, Keyed, Key, Value, Variant}

-- ---- paths

-- a step from a value to one in it: to the element or the member of a number, counted from 0, to
-- the dict entry of a key, to the key or the value of a dict entry, or to the value of a variant
abbrev pub step_text : PathStep → List ℕ
step_text (Number n) = codes "[" ++ (decimal n ++ codes "]")
step_text (Keyed key) = codes "[" ++ (quoted key.now ++ codes "]")
step_text Key = codes ".key"
step_text Value = codes ".value"
step_text Variant = codes ".variant"

abbrev pub path_text : List PathStep → List ℕ
path_text steps = flat_map step_text steps

-- ---- the parts of a message

-- a part of the first sixteen bytes
abbrev pub first_part : (at : ℕ) → List ℕ
first_part at =
    if nat_eq at 0 then codes "the byte order" else if nat_eq at 1 then codes "the message type"
    else if nat_eq at 2 then codes "the flags" else if nat_eq at 3 then codes "the protocol version"
    else if nat_lt at 8 then codes "the length of the body" else if nat_lt at 12 then codes "the serial"
    else codes "the length of the header fields"

abbrev pub is_missing : Reason → Bool
is_missing (FieldMissing code) = true
is_missing reason = false

-- the name of a header field, or its code if it has none
abbrev pub code_name : ℕ → List ℕ
code_name code = if nat_lt 0 code && nat_lt code 10 then field_name code else decimal code

-- what follows the name of a value, if the place is in a text there: where the text begins, and the
-- length that is stated of it
abbrev pub text_part : Option StatedText → List ℕ
text_part None = []
text_part (Some text) = codes ", a text from byte " ++ (decimal text.start ++ (codes " of stated length " ++ decimal text.stated))

-- it is the text of which Is holds, by where it begins and its length, or there is none
abbrev pub IsTextIf : (Is : (start stated : ℕ) → Type 0) → Option StatedText → Type 0
IsTextIf Is None = (start stated : ℕ) → Is start stated → ⊥
IsTextIf Is (Some text) = Is text.start text.stated

-- the name of a place in the header fields: of the field that it is in, and the text that it is in
-- there; or that it is in none whose code is read
pub data IsFieldName (bytes : List ℕ) (at : ℕ) : List ℕ → Option StatedText → Type 0 where
  in_field : (p code : ℕ) (text : Option StatedText) → IsInField bytes at p code → IsTextIf (IsInFieldText bytes at p) text
      → IsFieldName bytes at (codes "header field " ++ code_name code) text
  behind_fields : ((p code : ℕ) → IsInField bytes at p code → ⊥) → IsFieldName bytes at (codes "the header fields") None

-- the name of a place in the body: the path to the value that it is in, by its number among the
-- values of the body and the steps from there on, and the text that it is in; or it is in none
pub data IsValueName (bytes : List ℕ) (at : ℕ) : List ℕ → Option StatedText → Type 0 where
  in_value : (ts : TypeTrees) (number : ℕ) (t : TypeTree) (p : ℕ) (steps : List PathStep) (u : TypeTree) (q : ℕ) (text : Option StatedText) → AreBodyTypes bytes at ts
      → IsAmong bytes at ts (body_begin bytes) number t p
      → IsWholePath bytes at t p steps u q → IsTextIf (IsInText bytes at u q) text → IsValueName bytes at (codes "body" ++ path_text (Number number ∷ steps)) text
  behind_values : ((ts : TypeTrees) → AreBodyTypes bytes at ts → IsAmongNone bytes at ts (body_begin bytes)) → IsValueName bytes at (codes "the end of the body") None

-- the name of the place of a fault in a message, and the text that it is in, if it is in one
pub data IsNameOf (bytes : List ℕ) (reason : Reason) (at : ℕ) : List ℕ → Option StatedText → Type 0 where
  first : at < 16 → IsNameOf bytes reason at (first_part at) None
  missing : 16 ≤ at → is_missing reason ≡ true → IsNameOf bytes reason at (codes "the end of the header fields") None
  field : (name : List ℕ) (text : Option StatedText) → 16 ≤ at → is_missing reason ≡ false → at < fields_end bytes → IsFieldName bytes at name text
      → IsNameOf bytes reason at name text
  padding : 16 ≤ at → is_missing reason ≡ false → fields_end bytes ≤ at → at < body_begin bytes
      → IsNameOf bytes reason at (codes "the padding after the header fields") None
  value : (name : List ℕ) (text : Option StatedText) → 16 ≤ at → is_missing reason ≡ false → body_begin bytes ≤ at → IsValueName bytes at name text
      → IsNameOf bytes reason at name text

-- the code of the header field that a fault is of: of the one that is missing, or of the one that
-- its place is in; 0 if it is in none
pub data IsFieldOf (bytes : List ℕ) (reason : Reason) (at : ℕ) : (code : ℕ) → Type 0 where
  missing_one : (code : ℕ) → reason ≡ FieldMissing code → IsFieldOf bytes reason at code
  in_one : (p code : ℕ) → is_missing reason ≡ false → 16 ≤ at → at < fields_end bytes → IsInField bytes at p code → IsFieldOf bytes reason at code
  in_none : is_missing reason ≡ false → (16 ≤ at → at < fields_end bytes → (p code : ℕ) → IsInField bytes at p code → ⊥) → IsFieldOf bytes reason at 0
