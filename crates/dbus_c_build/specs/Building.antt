-- What is built of parts and of the fields that are kept, and why nothing is.
-- D-Bus Specification, "Message Format" and "Message Protocol".
use Rattle.std.specs.Prelude.{ℕ, List, ◌∷◌, ◌++◌, length, map, ◌≡◌, ◌⊎◌, ◌<◌, ◌≤◌, ◌^◌, Option, Some, None, nat_eq, if◌then◌else◌}
use Rattle.std.specs.Borrow.{Bor}
use Rattle.dbus_value_model.specs.declared.order.Order.{Order}
use Rattle.dbus_value_model.specs.SizeLimits.{with_values}
use Rattle.dbus_value_model.specs.Bytes.{num, pad}
use Rattle.dbus_value_model.specs.Spelling.{spelling, spellings}
use Rattle.dbus_value_model.specs.Values.{value_trees}
use Rattle.dbus_message_model.specs.Messages.{FieldTree, order_byte, field_array, field_struct, fields_end, MessageTree, IsMessage, message_bytes}
use Rattle.dbus_value_model.specs.declared.limits.Limits.{Limits}
use Rattle.dbus_value_model.specs.declared.limits.TheConstants.{MESSAGE_LIMIT, ARRAY_LIMIT}
use Rattle.dbus_header.specs.NoMessage.{IsFaultAtEnd}
use Rattle.dbus_explain.specs.Explained.{place_in}
use Rattle.dbus_explain.specs.Names.{IsFieldOf}
use Rattle.dbus_c_build.specs.Drafts.{fields_after, HasParts, text_of}
use Rattle.dbus_c_build.specs.declared.draft.Draft.{Draft}
use Rattle.dbus_c_build.specs.declared.draft_fault.DraftFault.{DraftFault}
use Rattle.dbus_c_build.specs.declared.draft_fault.DraftFault.TheVariants as refusals

-- The bytes that a header with these parts and a body of these bytes are, whether or not they are a
-- message. D-Bus Specification, "Message Format".

-- bytes that begin at a message's first one, with fields after them
abbrev pub with_fields : Order → List FieldTree → (front : List ℕ) → List ℕ
with_fields order fs front = with_values order (value_trees (map field_struct fs)) front

-- the items up to the fields' length, for which 0 stands
abbrev pub fixed_items : Order → (kind flags serial body_length : ℕ) → List ℕ
fixed_items order kind flags serial body_length = order_byte order ∷ (kind ∷ (flags ∷ (1 ∷ (num order 4 body_length ++ (num order 4 serial ++ num order 4 0)))))

abbrev pub with_header : Order → (kind flags serial : ℕ) → List FieldTree → (body : List ℕ) → List ℕ
with_header order kind flags serial fs body =
    order_byte order ∷ (num order 1 kind ++ (num order 1 flags ++ (num order 1 1
    ++ (num order 4 (length body) ++ (num order 4 serial ++ (spelling order 12 (field_array fs)
    ++ (pad 8 (fields_end order fs) ++ body)))))))

abbrev pub spelled : (kept : List FieldTree) → Draft → List ℕ
spelled kept p = with_header p.order p.kind p.flags p.serial (fields_after p kept) p.body.now

-- the bytes are a message within the limits that has exactly these parts
pub record IsBuilt (limits : Limits) (kept : List FieldTree) (p : Draft) (built : List ℕ) : Type 0 where
  pub message : MessageTree
  pub parts : HasParts kept p message
  pub valid : IsMessage limits p.order message
  pub bytes : built ≡ message_bytes p.order message

-- no message within the limits has these parts
abbrev pub MakeNone : Limits → (kept : List FieldTree) → Draft → Type 0
MakeNone limits kept p = (m : MessageTree) → HasParts kept p m → IsMessage limits p.order m → ⊥

-- how many bytes any text of the field of a code has at most, and under 0 any body
abbrev pub most_of : ℕ → ℕ
most_of code = if nat_eq code 8 then 255 else MESSAGE_LIMIT

abbrev pub IsShort : ℕ → Option (Bor (List ℕ)) → Type 0
IsShort code None = Unit {0}
IsShort code (Some t) = length t.now ≤ most_of code

-- the texts of the fields of all codes, or of those below one, and under 0 the body, are not too
-- long
abbrev pub AreShort : Draft → Type 0
AreShort p = (code : ℕ) → IsShort code (text_of code p)

abbrev pub AreShortBelow : Draft → (code : ℕ) → Type 0
AreShortBelow p code = (c : ℕ) → c < code → IsShort c (text_of c p)

-- how many bytes the fields have, from the sixteenth byte of the message on
abbrev pub fields_length : (kept : List FieldTree) → Draft → ℕ
fields_length kept p = length (spellings p.order 16 (value_trees (map field_struct (fields_after p kept))))

-- Why parts have no bytes that could be a message: the first text that is too long, the body before
-- those of the fields in the order of their codes; or none is, and all fields together are too long.
abbrev pub HaveNoBytes : (kept : List FieldTree) → Draft → DraftFault → Type 0
HaveNoBytes kept p refusals.Memory = Unit {0}
HaveNoBytes kept p (refusals.TooLong code) =
    (AreShortBelow p code × (IsShort code (text_of code p) → ⊥))
    ⊎ ((code ≡ 0) × AreShort p × (ARRAY_LIMIT < fields_length kept p))
HaveNoBytes kept p (refusals.Format f code) = ⊥

-- the parts have bytes: each length and number fits where it stands
pub record HaveBytes (kept : List FieldTree) (p : Draft) : Type 0 where
  pub short : AreShort p
  pub fields : fields_length kept p ≤ ARRAY_LIMIT
  pub numbers : (p.kind < 256) × (p.flags < 256) × (p.serial < 2 ^ 32) × (p.reply_serial < 2 ^ 32) × (p.unix_fds < 2 ^ 32)

-- why nothing is built: memory ran out; else no message has these parts, and this shows it
abbrev pub IsRefusal : Limits → (kept : List FieldTree) → Draft → DraftFault → Type 0
IsRefusal limits kept p refusals.Memory = Unit {0}
IsRefusal limits kept p (refusals.Format f code) = MakeNone limits kept p × HaveBytes kept p × IsFaultAtEnd limits (spelled kept p) f
    × IsFieldOf (spelled kept p) f.reason (place_in (spelled kept p) f) code
IsRefusal limits kept p why = MakeNone limits kept p × HaveNoBytes kept p why

-- The law of what is built and what it is built of.
-- D-Bus Specification, "Message Format".

-- What is built of parts that a message has is that message, byte for byte: parts are taken of one
-- and built, and it comes back.
abbrev pub OneBuilt : Type 0
OneBuilt = (limits : Limits) (kept : List FieldTree) (p : Draft) (m : MessageTree) (built : List ℕ) → HasParts kept p m → IsBuilt limits kept p built → built ≡ message_bytes p.order m
