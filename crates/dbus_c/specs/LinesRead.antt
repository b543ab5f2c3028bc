-- What is told of a line of JSON that is read back into a message.
-- RFC 8259; D-Bus Specification, "Message Format" and "Header Fields".
use Rattle.std.specs.Prelude.{◌≡◌, ℕ, ◌<◌, ◌≤◌, List, ◌++◌, length, drop}
use Rattle.dbus_value_model.specs.declared.limits.Limits.{Limits}
use Rattle.dbus_value_model.specs.declared.order.Order.{Order}
use Rattle.dbus_message_model.specs.Messages.{MessageTree, message_bytes}
use Rattle.dbus_json.specs.declared.integers.Integers.TheVariants.{Exact}
use Rattle.dbus_json_lines.specs.JsonLines.{IsLineOf}
use Rattle.dbus_json_lines.specs.LineFaults.{IsPlaceOf}
use Rattle.dbus_json_lines.specs.declared.fault.LineFault.{LineFault}
use Rattle.dbus_c.specs.Checking.{whole_told, nothing_told}
use Rattle.dbus_c.specs.JsonReasons.{json_field_named, json_reason_number}
use Rattle.dbus_c.specs.declared.answers.TheConstants.{WHOLE, REFUSED, NO_MEMORY, NO_ROOM}
use Rattle.dbus_c.specs.declared.checking.Checked.{Checked}

-- of a line that spells no message
abbrev pub line_fault_told : LineFault → Checked
line_fault_told f = record { length = 0; offset = f.at; order = 0; reason = json_reason_number f.reason; field = json_field_named f.reason; reserved = 0 }

-- An answer, what is told beside it and the new bytes hold of a line under the limits. The message
-- that the line spells is written, in the order that the line names, exactly if it spells one and
-- there is room; but memory may run out. A message with no serial has this one.
pub data ReadsLine (limits : Limits) (serial : ℕ) (line : List ℕ) (answer : ℕ) (told : Checked) (old new : List ℕ) : Type 0 where
  written : (order : Order) (m : MessageTree) → IsLineOf Exact limits serial line order m → length (message_bytes order m) ≤ length old → answer ≡ WHOLE
      → told ≡ whole_told order (length (message_bytes order m)) → new ≡ message_bytes order m ++ drop (length (message_bytes order m)) old → ReadsLine limits serial line answer told old new
  no_room : (order : Order) (m : MessageTree) → IsLineOf Exact limits serial line order m → length old < length (message_bytes order m) → answer ≡ NO_ROOM
      → told ≡ whole_told order (length (message_bytes order m)) → new ≡ old → ReadsLine limits serial line answer told old new
  refused : (f : LineFault) → ((order : Order) (m : MessageTree) → IsLineOf Exact limits serial line order m → ⊥) → IsPlaceOf line f → answer ≡ REFUSED
      → told ≡ line_fault_told f → new ≡ old → ReadsLine limits serial line answer told old new
  no_memory : answer ≡ NO_MEMORY → told ≡ nothing_told → new ≡ old → ReadsLine limits serial line answer told old new
