-- The head of a message that is refused, as far as it is whole before the place of the fault.
-- D-Bus Specification, "Message Format" and "Header Fields".
use Rattle.std.specs.Prelude.{◌≡◌, ℕ, ⊤, ◌+◌, length, ◌<◌, ◌≤◌, List, [], ◌∷◌, ◌++◌, codes, drop, take, map, min, slice_index, Option, None, Some}
use Rattle.std.specs.List.{flat_map}
use Rattle.dbus_value_model.specs.Bounds.{bounds_of}
use Rattle.dbus_value_model.specs.Outcomes.{SpelledAll}
use Rattle.dbus_value_model.specs.Reading.{number_of}
use Rattle.dbus_value_model.specs.Specification.{specification}
use Rattle.dbus_value_model.specs.Values.{value_trees}
use Rattle.dbus_value_model.specs.declared.limits.TheConstants.{DEPTH_LIMIT}
use Rattle.dbus_message_model.specs.Messages.{FieldTree, field_struct, field_type}
use Rattle.dbus_show.specs.Escapes.{escaped}
use Rattle.dbus_show.specs.ShownMessages.{field_text, front_text, start_text}
use Rattle.dbus_show.specs.declared.escapes.Escapes.TheVariants.{Line}
use Rattle.dbus_room.specs.Counting.{counted}
use Rattle.dbus_explain.specs.Places.{IsIn, fields_end, order_of}
use Rattle.dbus_explain.specs.declared.head.FirstPart.{FirstPart}
use Rattle.dbus_explain.specs.declared.explanation.LinesPart.{LinesPart}

-- these header fields are spelled one after another behind the first sixteen bytes, and end at the
-- place or before it; no other one behind them does
pub record AreWhole (bytes : List ℕ) (at : ℕ) (fs : List FieldTree) : Type 0 where
  pub end : ℕ
  pub spelled : SpelledAll (bounds_of specification) (order_of bytes) DEPTH_LIMIT 16 (drop 16 bytes) (value_trees (map field_struct fs)) end (drop end bytes)
  pub within : end ≤ at
  pub last : IsIn bytes at field_type end

-- the message type, the flags and the serial
abbrev pub kind_of : List ℕ → ℕ
kind_of bytes = slice_index bytes 1

abbrev pub flags_of : List ℕ → ℕ
flags_of bytes = slice_index bytes 2

abbrev pub serial_of : List ℕ → ℕ
serial_of bytes = number_of (order_of bytes) (take 4 (drop 8 bytes))

-- what a head has of the first sixteen bytes
abbrev pub first_part_of : List ℕ → FirstPart
first_part_of bytes = record { order = order_of bytes; kind = kind_of bytes; flags = flags_of bytes; serial = serial_of bytes }

-- What is whole before the place: nothing; the message type; or the first sixteen bytes and header
-- fields. It is told as the message is shown.
pub data IsHead (bytes : List ℕ) (at number : ℕ) : Option (List ℕ) → Type 0 where
  none : at < 2 → IsHead bytes at number None
  typed : 2 ≤ at → at < 16 → IsHead bytes at number (Some (front_text (order_of bytes) (kind_of bytes) number))
  fields : (fs : List FieldTree) → 16 ≤ at → AreWhole bytes (min at (fields_end bytes)) fs
      → IsHead bytes at number (Some (start_text (order_of bytes) (kind_of bytes) (serial_of bytes) (flags_of bytes) number ++ flat_map field_text fs))

-- what its line has of it, if there is one
abbrev pub head_shown : Option (List ℕ) → Option (List ℕ)
head_shown None = None
head_shown (Some head) = Some (escaped Line head)

-- the line of the head, if there is one
abbrev pub head_lines : Option (List ℕ) → List (List ℕ)
head_lines None = []
head_lines (Some head) = (codes "  " ++ escaped Line head) ∷ []

-- what it is behind the line before it
abbrev pub head_part : Option (List ℕ) → List ℕ
head_part None = []
head_part (Some head) = codes "\n  " ++ escaped Line head

-- where the head is in lines of which so many bytes come before that
abbrev pub IsHeadPart : ℕ → Option (List ℕ) → Option LinesPart → Type 0
IsHeadPart before None None = ⊤
IsHeadPart before (Some head) (Some place) = (place.start ≡ counted (before + 3)) × (place.end ≡ counted (before + 3 + length (escaped Line head)))
IsHeadPart before head place = ⊥
