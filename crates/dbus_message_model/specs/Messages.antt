-- Trusted by the headline.
-- Messages as trees, their one spelling in either byte order, and which are valid: the message
-- relation. D-Bus Specification, "Message Format" and "Header Fields".
use Rattle.std.specs.Prelude.{◌≡◌, ℕ, ◌+◌, ◌^◌, ◌<◌, ◌≤◌, List, [], ◌∷◌, ◌++◌, length, map, Bool, true, false, ◌||◌, ◌&&◌, nat_eq, if◌then◌else◌, Option, Some, None}
use Rattle.dbus_texts.specs.Types.{BYTE, UINT32, STRING, OBJECT_PATH, SIGNATURE, TypeTree, NumberType, TextType, VariantType, StructType, NoTypes, MoreTypes, sigs}
use Rattle.dbus_value_model.specs.FdIndexes.{index_limit, AreAllBelow}
use Rattle.dbus_value_model.specs.declared.limits.Limits.{Limits}
use Rattle.dbus_value_model.specs.WantedTexts.{WantedText, IsWanted, Of}
use Rattle.dbus_value_model.specs.declared.order.Order.{Order}
use Rattle.dbus_value_model.specs.declared.order.Order.TheVariants.{Little, Big}
use Rattle.dbus_value_model.specs.Bytes.{num, gap_to, pad}
use Rattle.dbus_value_model.specs.Values.{value_trees, ValueTrees, NoValues, MoreValues, ValueTree, NumberValue, TextValue, VariantValue, ArrayValue, StructValue, types_of, type_of, IsWellFormed, AreWellFormed}
use Rattle.dbus_value_model.specs.Spelling.{spelling, spellings, IsWithinLimits, AreWithinLimits}
use Rattle.dbus_value_model.specs.declared.fault.Reason.{Reason}
use Rattle.dbus_value_model.specs.declared.fault.Reason.TheVariants as reasons
use Rattle.dbus_texts.specs.declared.text_kind.TextKind.TheVariants as kinds
use Rattle.dbus_message_model.specs.declared.field_code.TheConstants as field
use Rattle.dbus_message_model.specs.declared.message_type.TheConstants as message

pub record FieldTree : Type 0 where
  pub code : ℕ
  pub value : ValueTree

pub record MessageTree : Type 0 where
  pub kind : ℕ
  pub flags : ℕ
  pub serial : ℕ
  pub fields : List FieldTree
  pub body : ValueTrees

-- ---- the spelling

-- `l` and `B`
abbrev pub order_byte : Order → ℕ
order_byte Little = 108
order_byte Big = 66

abbrev pub field_type : TypeTree
field_type = StructType (MoreTypes (NumberType BYTE) (MoreTypes VariantType NoTypes))

abbrev pub field_struct : FieldTree → ValueTree
field_struct f = StructValue (MoreValues (NumberValue BYTE f.code) (MoreValues (VariantValue f.value) NoValues))

-- the fields as a value
abbrev pub field_array : List FieldTree → ValueTree
field_array fs = ArrayValue field_type (value_trees (map field_struct fs))

-- where the fields end
abbrev pub fields_end : Order → List FieldTree → ℕ
fields_end order fs = 12 + length (spelling order 12 (field_array fs))

abbrev pub body_start : Order → List FieldTree → ℕ
body_start order fs = fields_end order fs + gap_to 8 (fields_end order fs)

abbrev pub body_bytes : Order → MessageTree → List ℕ
body_bytes order m = spellings order (body_start order m.fields) m.body

abbrev pub message_bytes : Order → MessageTree → List ℕ
message_bytes order m =
    order_byte order ∷ (num order 1 m.kind ++ (num order 1 m.flags ++ (num order 1 1
    ++ (num order 4 (length (body_bytes order m)) ++ (num order 4 m.serial ++ (spelling order 12 (field_array m.fields)
    ++ (pad 8 (fields_end order m.fields) ++ body_bytes order m)))))))

-- ---- fields

-- what is wanted of a field's value
pub data Want : Type 0 where
  Anything : Want
  OfType : TypeTree → Want
  Name : WantedText → Want
  Serial : Want

-- The table of the known header fields: what is wanted of the value of each. Any other field holds
-- anything.
abbrev pub want : ℕ → Want
want code =
    if nat_eq code field.PATH then OfType (TextType OBJECT_PATH)
    else if nat_eq code field.INTERFACE then Name (Of kinds.Interface)
    else if nat_eq code field.MEMBER then Name (Of kinds.Member)
    else if nat_eq code field.ERROR_NAME then Name (Of kinds.ErrorName)
    else if nat_eq code field.REPLY_SERIAL then Serial
    else if nat_eq code field.DESTINATION then Name (Of kinds.BusName)
    else if nat_eq code field.SENDER then Name (Of kinds.BusName)
    else if nat_eq code field.SIGNATURE then OfType (TextType SIGNATURE)
    else if nat_eq code field.UNIX_FDS then OfType (NumberType UINT32)
    else Anything

-- whether more is wanted than any value
abbrev pub is_particular : Want → Bool
is_particular Anything = false
is_particular _ = true

abbrev pub is_known : ℕ → Bool
is_known code = is_particular (want code)

abbrev pub Suits : Want → ValueTree → Type 0
Suits Anything v = Unit {0}
Suits (OfType t) v = type_of v ≡ t
Suits (Name k) v = (t : List ℕ) × (v ≡ TextValue STRING t) × IsWanted k t
Suits Serial v = (n : ℕ) × (v ≡ NumberValue UINT32 n) × (0 < n)

-- whether a code stands among fields
abbrev pub has_code : ℕ → List FieldTree → Bool
has_code c [] = false
has_code c (f ∷ fs) = nat_eq f.code c || has_code c fs

-- a field after others
pub record IsField (before : List FieldTree) (f : FieldTree) : Type 0 where
  pub not_zero : 0 < f.code
  pub not_again : is_known f.code && has_code f.code before ≡ false
  pub suits : Suits (want f.code) f.value

-- before are those in front, the last first
abbrev pub AreFields : List FieldTree → List FieldTree → Type 0
AreFields before [] = Unit {0}
AreFields before (f ∷ fs) = IsField before f × AreFields (f ∷ before) fs

-- the first of these codes that is missing
abbrev pub lacks : List ℕ → List FieldTree → Option Reason
lacks [] fs = None
lacks (c ∷ cs) fs = if has_code c fs then lacks cs fs else Some (reasons.FieldMissing c)

-- the header fields that a message of a type has to have, the lowest code first
abbrev pub required : ℕ → List ℕ
required kind =
    if nat_eq kind message.METHOD_CALL then field.PATH ∷ field.MEMBER ∷ []
    else if nat_eq kind message.METHOD_RETURN then field.REPLY_SERIAL ∷ []
    else if nat_eq kind message.ERROR then field.ERROR_NAME ∷ field.REPLY_SERIAL ∷ []
    else if nat_eq kind message.SIGNAL then field.PATH ∷ field.INTERFACE ∷ field.MEMBER ∷ []
    else []

-- the text of the first SIGNATURE field, or nothing
abbrev pub text_in : ValueTree → List ℕ
text_in (TextValue k t) = t
text_in _ = []

abbrev pub body_signature : List FieldTree → List ℕ
body_signature [] = []
body_signature (f ∷ fs) = if nat_eq f.code field.SIGNATURE then text_in f.value else body_signature fs

-- ---- descriptors

abbrev pub number_in : ValueTree → ℕ
number_in (NumberValue UINT32 n) = n
number_in _ = 0

-- how many descriptors come with a message: the number of the first UNIX_FDS field, or 0
abbrev pub fd_count : List FieldTree → ℕ
fd_count [] = 0
fd_count (f ∷ fs) = if nat_eq f.code field.UNIX_FDS then number_in f.value else fd_count fs

-- the number that the indexes of descriptors in the body are below, where the limits' rule asks for
-- one
abbrev pub body_fds : Limits → List FieldTree → Option ℕ
body_fds limits fs = index_limit limits.fds (fd_count fs)

abbrev pub KeepsIndexes : Limits → MessageTree → Type 0
KeepsIndexes limits m = AreAllBelow (body_fds limits m.fields) m.body

-- ---- messages

-- valid, and within the limits as it is spelled in the order
pub record IsMessage (limits : Limits) (order : Order) (m : MessageTree) : Type 0 where
  pub kind : 0 < m.kind
  pub kind_fits : m.kind < 256
  pub flags : m.flags < 256
  pub serial : 0 < m.serial
  pub serial_fits : m.serial < 256 ^ 4
  pub fields : AreFields [] m.fields
  pub formed_fields : IsWellFormed limits.depth (field_array m.fields)
  pub within_fields : IsWithinLimits limits.array order 12 (field_array m.fields)
  pub required_codes : lacks (required m.kind) m.fields ≡ None
  pub signature : sigs (types_of m.body) ≡ body_signature m.fields
  pub formed_body : AreWellFormed limits.depth m.body
  pub within_body : AreWithinLimits limits.array order (body_start order m.fields) m.body
  pub limit : length (message_bytes order m) ≤ limits.message
  pub indexes : KeepsIndexes limits m

-- valid, and within the limits in both byte orders
abbrev pub IsValidMessage : Limits → MessageTree → Type 0
IsValidMessage limits m = (order : Order) → IsMessage limits order m
