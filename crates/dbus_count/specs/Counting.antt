-- How many messages have each name, and how many bytes these have. A name is a word for what it
-- names, a space and the name's bytes.
use Rattle.std.specs.Prelude.{◌≡◌, ℕ, ◌+◌, ◌-◌, ◌^◌, List, [], ◌∷◌, ◌++◌, if◌then◌else◌, min, Option, None, Some, codes, Bool}
use Rattle.std.specs.Option.{unwrap_or}
use Rattle.std.specs.Str.{bytes_eq}
use Rattle.std.specs.Map.{lookup}
use Rattle.dbus_value_model.specs.Values.{ValueTree, TextValue}
use Rattle.dbus_message_model.specs.Messages.{MessageTree}
use Rattle.dbus_message_model.specs.KnownFields.{field_value}
use Rattle.dbus_message_model.specs.declared.field_code.TheConstants as field
use Rattle.dbus_show.specs.ShownMessages.{kind_text}
use Rattle.dbus_count.specs.declared.count.Count.{Count}
use Rattle.dbus_count.specs.NameOrder.{bytes_of}
use Rattle.dbus_count.specs.declared.counts.Counts.{Counts}
use Rattle.dbus_count.specs.declared.name.Name.{Name}

-- the count of each name, if a message had it
abbrev pub Counting : Type 0
Counting = List ℕ → Option Count

-- no name is counted
abbrev pub nothing : Counting
nothing name = None

abbrev no_messages : Count
no_messages = record { messages = 0; bytes = 0 }

-- sums stop at the greatest number of 64 bits
abbrev pub sum_of : ℕ → ℕ → ℕ
sum_of n more = min (n + more) (2 ^ 64 - 1)

-- one message more, of this size
abbrev pub with_one : Count → (size : ℕ) → Count
with_one c size = record { messages = sum_of c.messages 1; bytes = sum_of c.bytes size }

-- the count of a name after one message more of this name
abbrev pub with_name : (name : List ℕ) → (size : ℕ) → (other : List ℕ) → Option Count → Option Count
with_name name size other c = if bytes_eq name other then Some (with_one (unwrap_or c no_messages) size) else c

-- after one message more that has these names
abbrev pub with_names : (names : List (List ℕ)) → (size : ℕ) → (other : List ℕ) → Option Count → Option Count
with_names [] size other c = c
with_names (name ∷ names) size other c = with_names names size other (with_name name size other c)

-- after one message more of this size that is counted under the first of these names, and not under
-- the next one or one after that
pub record CountsFirst (names : List (List ℕ)) (size : ℕ) (old new : Counting) : Type 0 where
  pub first : List (List ℕ)
  pub next : List ℕ
  pub others : List (List ℕ)
  pub names_are : names ≡ first ++ next ∷ others
  pub counted : (name : List ℕ) → new name ≡ with_names first size name (old name)

-- The names that a message has, each with a word before it that says what it names.
-- D-Bus Specification, "Message Format" and "Header Fields".

-- the text of a field
abbrev pub text_of : Option ValueTree → Option (List ℕ)
text_of (Some (TextValue kind text)) = Some text
text_of value = None

abbrev pub text_at : ℕ → MessageTree → Option (List ℕ)
text_at code m = text_of (field_value code m.fields)

-- the word and the text, if there is a text
abbrev pub named : (word : List ℕ) → Option (List ℕ) → List (List ℕ)
named word None = []
named word (Some text) = (word ++ text) ∷ []

-- a member, behind its interface if it has one
abbrev pub member_of : (interface member : Option (List ℕ)) → Option (List ℕ)
member_of interface None = None
member_of None (Some member) = Some member
member_of (Some interface) (Some member) = Some (interface ++ (codes "." ++ member))

abbrev pub names_of : MessageTree → List (List ℕ)
names_of m =
    (codes "type " ++ kind_text m.kind) ∷ (named (codes "sender ") (text_at field.SENDER m)
    ++ (named (codes "destination ") (text_at field.DESTINATION m) ++ (named (codes "interface ") (text_at field.INTERFACE m)
    ++ (named (codes "member ") (member_of (text_at field.INTERFACE m) (text_at field.MEMBER m)) ++ named (codes "error ") (text_at field.ERROR_NAME m)))))

-- What counts are known by: the count of each name in their map.

-- whether a name has these bytes
abbrev pub has : List ℕ → Name → Bool
has bytes name = bytes_eq bytes (bytes_of name)

-- the count of each name, if a message had it
unfoldable pub counting_of : Counts → Counting
counting_of c name = lookup (has name) c.names.entries
