-- Where a line shows why it spells no message.
-- RFC 8259, sections 2 and 8.1; RFC 3629, sections 3 and 4.
use Rattle.std.specs.Prelude.{◌≡◌, ◌≤◌, ℕ, List, length, None, Some}
use Rattle.std.specs.Str.{IsUtf8}
use Rattle.json.specs.Json.{Json}
use Rattle.dbus_texts.specs.Kinds.{IsBreakIn}
use Rattle.dbus_json_reader.specs.JsonRules.{IsMessageFault}
use Rattle.dbus_json_reader.specs.declared.reasons.JsonReason.TheVariants as reason
use Rattle.dbus_json_reader.specs.declared.unread.Unread.{Unread}
use Rattle.dbus_json_reader.specs.declared.unread.Unread.TheVariants as unread
use Rattle.dbus_json_lines.specs.JsonLines.{json_of}
use Rattle.dbus_json_lines.specs.Places.{start_of}
use Rattle.dbus_json_lines.specs.declared.fault.LineFault.{LineFault}
use Rattle.dbus_json_lines.specs.declared.fault.NoMessage.{NoMessage}
use Rattle.dbus_json_lines.specs.declared.fault.NoMessage.TheVariants as fault

-- the reason why JSON is not read, at the start of the token that shows it
abbrev pub IsPlaced : (line : List ℕ) → Unread → NoMessage → Type 0
IsPlaced line unread.Memory why = why ≡ fault.Memory
IsPlaced line (unread.Unspelled broken) why = why ≡ fault.Refused (record { reason = broken.reason; at = start_of line broken.at })

-- The place is in the line, or its end. A line that is not UTF-8, and no other one, is refused for
-- that, at the first byte that no UTF-8 has there; one that is UTF-8 and no JSON, and no other one,
-- is refused for that; and any other one for what its JSON breaks, where the token begins that shows
-- it.
pub record IsPlaceOf (line : List ℕ) (f : LineFault) : Type 0 where
  pub within : f.at ≤ length line
  pub not_utf8 : (IsUtf8 line → ⊥) → (f.reason ≡ reason.NotUtf8) × IsBreakIn IsUtf8 line f.at
  pub only_not_utf8 : f.reason ≡ reason.NotUtf8 → IsUtf8 line → ⊥
  pub not_json : IsUtf8 line → json_of line ≡ None → f.reason ≡ reason.NotJson
  pub only_not_json : f.reason ≡ reason.NotJson → IsUtf8 line × (json_of line ≡ None)
  pub token : IsUtf8 line → (json : Json) → json_of line ≡ Some json → (number : ℕ) × (f.at ≡ start_of line number) × IsMessageFault json f.reason number
