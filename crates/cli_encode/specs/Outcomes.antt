-- What becomes of lines that are encoded: each is written as its message, or is blank and passed
-- over, or is refused.
use Rattle.std.specs.Prelude.{◌≡◌, ◌<◌, ◌≤◌, ◌+◌, ℕ, Bool, true, false, ◌||◌, nat_eq, if◌then◌else◌, List, [], ◌∷◌, ◌++◌, length, Option, None, Some, codes, decimal}
use Rattle.dbus_value_model.specs.declared.order.Order.{Order}
use Rattle.dbus_message_model.specs.Messages.{MessageTree, message_bytes}
use Rattle.dbus_json.specs.JsonIntegers.{integers_of}
use Rattle.dbus_json_lines.specs.JsonLines.{IsBlank, IsLineOf}
use Rattle.dbus_json_lines.specs.LineFaults.{IsPlaceOf}
use Rattle.cli_encode.specs.Explained.{explanation}
use Rattle.cli_encode.specs.declared.encoding.Encoding.{Encoding}
use Rattle.dbus_json_reader.specs.JsonReasons.{json_reason_text}
use Rattle.cli_encode.specs.declared.reason.LineReason.{LineReason}
use Rattle.cli_encode.specs.declared.reason.LineReason.TheVariants.{TooLong, Unspelled}
use Rattle.cli_encode.specs.declared.reason.Refusal.{Refusal}

pub data Outcome : Type 0 where
  Written : List ℕ → Outcome
  Passed : Outcome
  Refused : Refusal → (explained : List ℕ) → Outcome

-- the order that is wanted, or the one that the line names
abbrev pub order_in : Option Order → Order → Order
order_in None order = order
order_in (Some wanted) order = wanted

module _ (encoding : Encoding) where
  -- the line spells a message that has these bytes; with no serial, this number is its serial
  pub record Encodes (serial : ℕ) (line bytes : List ℕ) : Type 0 where
    pub order : Order
    pub message : MessageTree
    pub spelled : IsLineOf (integers_of encoding.safe_integers) encoding.limits serial line order message
    pub encoded : bytes ≡ message_bytes (order_in encoding.order order) message

  -- it has more bytes than a line may have, and is refused at the first past those; or it spells no
  -- message, and is refused where it shows that
  abbrev pub IsRefused : (serial : ℕ) → (line : List ℕ) → LineReason → (at : ℕ) → Type 0
  IsRefused serial line TooLong at = (encoding.most < length line) × (at ≡ encoding.most)
  IsRefused serial line (Unspelled why) at = (length line ≤ encoding.most) × (IsBlank line → ⊥) × ((bytes : List ℕ) → Encodes serial line bytes → ⊥) × IsPlaceOf line (record { reason = why; at = at })

  -- what becomes of a line
  abbrev pub IsOutcome : (serial : ℕ) → (line : List ℕ) → Outcome → Type 0
  IsOutcome serial line (Written bytes) = (length line ≤ encoding.most) × (IsBlank line → ⊥) × Encodes serial line bytes
  IsOutcome serial line Passed = (length line ≤ encoding.most) × IsBlank line
  IsOutcome serial line (Refused why explained) = IsRefused serial line why.reason why.at × (explained ≡ explanation encoding.explains line why)

-- The serial of a message with none is the number of its line among those that are not blank, from
-- 1 to the greatest number of 32 bits, and then from 1 again.
abbrev pub next_serial : ℕ → ℕ
next_serial serial = if nat_eq serial 4294967295 then 1 else serial + 1

abbrev pub serial_after : Outcome → ℕ → ℕ
serial_after (Written bytes) serial = next_serial serial
serial_after Passed serial = serial
serial_after (Refused why explained) serial = next_serial serial

-- what becomes of lines, the first of which has this serial
abbrev pub AreOutcomes : Encoding → (serial : ℕ) → List (List ℕ) → List Outcome → Type 0
AreOutcomes encoding serial [] [] = Unit {0}
AreOutcomes encoding serial [] (outcome ∷ outcomes) = ⊥
AreOutcomes encoding serial (line ∷ lines) [] = ⊥
AreOutcomes encoding serial (line ∷ lines) (outcome ∷ outcomes) =
    IsOutcome encoding serial line outcome × AreOutcomes encoding (serial_after outcome serial) lines outcomes

-- the bytes that are written
abbrev pub bytes_of : Outcome → List ℕ
bytes_of (Written bytes) = bytes
bytes_of Passed = []
bytes_of (Refused why explained) = []

abbrev pub all_bytes : List Outcome → List ℕ
all_bytes [] = []
all_bytes (outcome ∷ outcomes) = bytes_of outcome ++ all_bytes outcomes

-- what is told of a refused line: its number and the column, both from 1, the reason, and what
-- explains it
abbrev pub line_reason_text : LineReason → List ℕ
line_reason_text TooLong = codes "TooLong"
line_reason_text (Unspelled why) = json_reason_text why

abbrev pub refused_text : ℕ → Refusal → (explained : List ℕ) → List ℕ
refused_text number why explained =
    codes "refused at line " ++ (decimal number ++ (codes ", column " ++ (decimal (why.at + 1) ++ (codes ": " ++ (line_reason_text why.reason ++ (codes "\n" ++ explained))))))

abbrev pub text_of : (number : ℕ) → Outcome → List ℕ
text_of number (Written bytes) = []
text_of number Passed = []
text_of number (Refused why explained) = refused_text number why explained

-- of lines, the first of which has this number
abbrev pub all_text : (number : ℕ) → List Outcome → List ℕ
all_text number [] = []
all_text number (outcome ∷ outcomes) = text_of number outcome ++ all_text (number + 1) outcomes

-- whether it is refused
abbrev pub is_refused : Outcome → Bool
is_refused (Written bytes) = false
is_refused Passed = false
is_refused (Refused why explained) = true

-- whether any is
abbrev pub any_refused : List Outcome → Bool
any_refused [] = false
any_refused (outcome ∷ outcomes) = is_refused outcome || any_refused outcomes

-- unless the run is to go on, none before the last is refused
abbrev pub EndsAtRefused : (keeps_going : Bool) → List Outcome → Type 0
EndsAtRefused keeps_going outcomes = keeps_going ≡ false → (before : List Outcome) (last : Outcome) → outcomes ≡ before ++ last ∷ [] → any_refused before ≡ false
