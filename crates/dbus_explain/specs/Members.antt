-- What is said of a refused message as JSON.
-- RFC 8259; D-Bus Specification, "Message Format" and "Header Fields".
use Rattle.std.specs.Prelude.{◌≡◌, ℕ, ◌<◌, ◌≤◌, List, [], ◌∷◌, ◌++◌, codes, min, Option}
use Rattle.dbus_message_model.specs.Messages.{FieldTree}
use Rattle.dbus_json.specs.JsonMessages.{IsJsonHeader, front_members}
use Rattle.dbus_json.specs.JsonValues.{listed, member, object, string}
use Rattle.dbus_explain.specs.Explained.{place_in}
use Rattle.dbus_explain.specs.Heads.{AreWhole, flags_of, kind_of, serial_of}
use Rattle.dbus_explain.specs.Names.{IsNameOf, text_part}
use Rattle.dbus_explain.specs.Places.{fields_end, order_of}
use Rattle.dbus_explain.specs.Rules.{rule_text}
use Rattle.dbus_explain.specs.declared.message.Refused.{Refused}
use Rattle.dbus_explain.specs.declared.search.StatedText.{StatedText}

-- the header as far as it is whole before the place: nothing; the byte order and the message type;
-- or the first sixteen bytes and header fields
pub data IsJsonHead (bytes : List ℕ) (at : ℕ) : List ℕ → Type 0 where
  none : at < 2 → IsJsonHead bytes at (codes "{}")
  typed : 2 ≤ at → at < 16 → IsJsonHead bytes at (object (front_members (order_of bytes) (kind_of bytes)))
  fields : (fs : List FieldTree) (text : List ℕ) → 16 ≤ at → AreWhole bytes (min at (fields_end bytes)) fs
      → IsJsonHeader (order_of bytes) (kind_of bytes) (flags_of bytes) (serial_of bytes) fs text → IsJsonHead bytes at text

-- its place by name, the rule that is broken there, and the header
pub record AreMembersOf (refused : Refused) (members : List ℕ) : Type 0 where
  pub name : List ℕ
  pub text : Option StatedText
  pub header : List ℕ
  pub named : IsNameOf refused.bytes.now refused.fault.reason (place_in refused.bytes.now refused.fault) name text
  pub headed : IsJsonHead refused.bytes.now (place_in refused.bytes.now refused.fault) header
  pub is : members ≡ listed (member (codes "place") (string (name ++ text_part text)) ∷ member (codes "rule") (string (rule_text refused.fault.reason)) ∷ member (codes "header") header ∷ [])
