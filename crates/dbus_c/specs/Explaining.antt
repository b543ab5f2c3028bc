-- Why bytes are refused, as it is explained for a reader.
-- D-Bus Specification, "Message Protocol".
use Rattle.std.specs.Prelude.{◌≡◌, ℕ, ◌-◌, ◌<◌, ◌≤◌, List, [], min, nat_eq, if◌then◌else◌, Option, None, Some}
use Rattle.dbus_value_model.specs.declared.limits.Limits.{Limits}
use Rattle.dbus_value_model.specs.Values.{ValueTrees, NoValues}
use Rattle.dbus_value_model.specs.declared.fault.Fault.{Fault}
use Rattle.dbus_message_model.specs.Messages.{FieldTree}
use Rattle.dbus_header.specs.MessageOutcomes.{IsRefused}
use Rattle.dbus_flatten.specs.Flattening.{ArePartsFlat}
use Rattle.dbus_flatten.specs.declared.flat_item.FlatItem.{FlatItem}
use Rattle.dbus_flatten.specs.declared.parts.PartsCount.{PartsCount}
use Rattle.dbus_explain.specs.Before.{AreValuesBefore}
use Rattle.dbus_explain.specs.Explained.{ArePartsOf, IsExplained, place_in}
use Rattle.dbus_explain.specs.Heads.{AreWhole}
use Rattle.dbus_explain.specs.Places.{fields_end, order_of}
use Rattle.dbus_explain.specs.declared.explanation.Explanation.{Explanation}
use Rattle.dbus_explain.specs.declared.explanation.LinesPart.{LinesPart}
use Rattle.dbus_explain.specs.declared.message.Refused.{Refused}
use Rattle.dbus_explain.specs.declared.search.StatedText.{StatedText}
use Rattle.dbus_c.specs.Outcomes.{with_room}
use Rattle.dbus_c.specs.Parting.{no_place}
use Rattle.dbus_c.specs.Written.{IsWritten}
use Rattle.dbus_c.specs.declared.answers.TheConstants.{WHOLE, REFUSED, NO_VALUE}
use Rattle.dbus_c.specs.declared.explaining.Explained.{Explained}
use Rattle.dbus_c.specs.declared.explaining.InputPlace.{InputPlace}
use Rattle.dbus_c.specs.declared.parts.TextPlace.{TextPlace}

-- What a check of the bytes answers, by the answer of a call that explains their fault: they have
-- one if it is explained, and are a message if there is nothing to explain.
abbrev pub checked_answer : ℕ → ℕ
checked_answer answer = if nat_eq (with_room answer) WHOLE then REFUSED else if nat_eq answer NO_VALUE then WHOLE else answer

-- the bytes are refused under the limits, with this fault, and stand at this place of their input
pub record IsRefusedAt (limits : Limits) (bytes : List ℕ) (place : InputPlace) (refused : Refused) : Type 0 where
  pub bytes_are : refused.bytes.now ≡ bytes
  pub fault : IsRefused limits bytes refused.fault
  pub number_is : refused.number ≡ place.number
  pub offset_is : refused.offset ≡ place.offset

-- What is whole of a message that is refused.

-- the header fields, and the values of the body from an offset on, that are whole before the place of
-- the fault, or before the end of the bytes if that comes first; none, if the first sixteen bytes are
-- not
pub data AreWholeBefore (bytes : List ℕ) (fault : Fault) : List FieldTree → (start : ℕ) → ValueTrees → Type 0 where
  none : (start : ℕ) → place_in bytes fault < 16 → AreWholeBefore bytes fault [] start NoValues
  some : (fs : List FieldTree) (start : ℕ) (vs : ValueTrees) → 16 ≤ place_in bytes fault → AreWhole bytes (min (place_in bytes fault) (fields_end bytes)) fs
      → AreValuesBefore bytes (place_in bytes fault) start vs → AreWholeBefore bytes fault fs start vs

-- they make so many items, of which those from a place on are written over those before
pub record AreWholeFlat (bytes : List ℕ) (fault : Fault) (first : ℕ) (before items : List FlatItem) (count : PartsCount) : Type 0 where
  pub fields : List FieldTree
  pub start : ℕ
  pub values : ValueTrees
  pub whole : AreWholeBefore bytes fault fields start values
  pub flat : ArePartsFlat (order_of bytes) fields start values first before items count

-- The parts of an explanation in numbers.

-- where a part is in the text, if it is there
abbrev pub part_told : Option LinesPart → TextPlace
part_told None = no_place
part_told (Some part) = record { offset = part.start; length = part.end - part.start; is_there = 1 }

-- where a text of the message is, if it is there
abbrev pub text_told : Option StatedText → TextPlace
text_told None = no_place
text_told (Some text) = record { offset = text.start; length = text.stated; is_there = 1 }

abbrev pub explained_told : Explanation → Explained
explained_told parts = record {
  length = parts.length;
  name = part_told (Some parts.name);
  head = part_told parts.head;
  rule = part_told (Some parts.rule);
  text = text_told parts.text;
}

-- A text is written that explains the fault, and it is told where its parts are.
pub record IsExplainedIn (refused : Refused) (old new : List ℕ) (explained : Explained) (answer : ℕ) : Type 0 where
  pub text : List ℕ
  pub is : IsExplained refused text
  pub parts : Explanation
  pub are_parts : ArePartsOf is parts
  pub told : explained ≡ explained_told parts
  pub written : IsWritten text old new answer
