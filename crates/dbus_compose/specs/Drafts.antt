-- What a message is to be made of, and what a builder's calls change of it.
-- D-Bus Specification, "Message Format" and "Header Fields".
use Rattle.std.specs.Prelude.{◌≡◌, ℕ, List, [], ◌∷◌, ◌++◌, nat_eq, nat_lt, if◌then◌else◌, Option, Some, None, Result, Ok, Err, option_map, option_to_list, ◌⊎◌}
use Rattle.dbus_texts.specs.Types.{UINT32, STRING, OBJECT_PATH, SIGNATURE, sigs}
use Rattle.dbus_value_model.specs.Values.{ValueTree, NumberValue, TextValue, types_of}
use Rattle.dbus_value_model.specs.ValueViews.{value_tree, value_trees_of}
use Rattle.dbus_value_model.specs.declared.value.Value.{Value}
use Rattle.dbus_message_model.specs.KnownFields.{field_value}
use Rattle.dbus_message_model.specs.Messages.{FieldTree, MessageTree}
use Rattle.dbus_message_model.specs.PartsViews.{field_trees, parts_tree}
use Rattle.dbus_message_model.specs.declared.parts.Parts.{Parts}
use Rattle.dbus_value_model.specs.Specification.{specification}
use Rattle.dbus_message_model.specs.MessageViews.{message_tree}
use Rattle.dbus_message_model.specs.declared.message.Message.{Message}
use Rattle.dbus_build.specs.BuildFaults.{IsFirstFault}
use Rattle.dbus_build.specs.declared.build_fault.BuildFault.{BuildFault}
use Rattle.dbus_build.specs.declared.build_fault.BuildFault.TheVariants.{Memory}
use Rattle.dbus_compose.specs.declared.builder.MessageBuilder.{MessageBuilder}

-- The parts of a message, but for its SIGNATURE field. The body's values are themselves, since a
-- tree does not show where an array of bytes is `Bytes`.
pub record Draft (A : Type 0) : Type 0 where
  pub kind : ℕ
  pub flags : ℕ
  pub serial : ℕ
  pub fields : List FieldTree
  pub body : List (Value A)

abbrev pub draft_of : {A : Type 0} → Parts A → Draft A
draft_of p = record { kind = p.kind; flags = p.flags; serial = p.serial; fields = field_trees p.fields.items; body = p.body.items }

-- nothing, if an allocation failed
abbrev pub draft_in : {A E : Type 0} → Result (Parts A) E → Option (Draft A)
draft_in (Ok p) = Some (draft_of p)
draft_in (Err e) = None

-- ---- fields

abbrev pub field_of : ℕ → ValueTree → FieldTree
field_of c v = record { code = c; value = v }

abbrev pub path_field : List ℕ → FieldTree
path_field t = field_of 1 (TextValue OBJECT_PATH t)

abbrev pub name_field : ℕ → List ℕ → FieldTree
name_field c t = field_of c (TextValue STRING t)

-- the field among others, in the order of their codes, and in place of one of its code
abbrev pub put : FieldTree → List FieldTree → List FieldTree
put f [] = f ∷ []
put f (g ∷ gs) = if nat_eq f.code g.code then f ∷ gs else if nat_lt f.code g.code then f ∷ g ∷ gs else g ∷ put f gs

-- the fields of a reply to a message of this serial and sender: that serial, and the destination,
-- which is the sender if there is one
abbrev pub fields_to : (serial : ℕ) → (sender : Option (List ℕ)) → List FieldTree
fields_to serial sender =
    field_of 5 (NumberValue UINT32 serial) ∷ option_to_list (option_map (name_field 6) sender)

-- to the message
abbrev pub reply_fields : MessageTree → List FieldTree
reply_fields m = field_of 5 (NumberValue UINT32 m.serial) ∷ option_to_list (option_map (field_of 6) (field_value 7 m.fields))

-- ---- what calls change

-- the serial is 1 at first
abbrev pub begun : {A : Type 0} → ℕ → ℕ → List FieldTree → Draft A
begun kind flags fields = record { kind = kind; flags = flags; serial = 1; fields = fields; body = [] }

abbrev pub with_field : {A : Type 0} → FieldTree → Draft A → Draft A
with_field f d = record d { fields = put f d.fields }

abbrev pub with_flags : {A : Type 0} → ℕ → Draft A → Draft A
with_flags n d = record d { flags = n }

abbrev pub with_serial : {A : Type 0} → ℕ → Draft A → Draft A
with_serial n d = record d { serial = n }

abbrev pub with_value : {A : Type 0} → Value A → Draft A → Draft A
with_value v d = record d { body = d.body ++ v ∷ [] }

abbrev pub with_body : {A : Type 0} → List (Value A) → Draft A → Draft A
with_body vs d = record d { body = vs }

-- an allocation failed, or it is the draft
abbrev pub IsDraft : {A : Type 0} → Draft A → Option (Draft A) → Type 0
IsDraft d None = Unit {0}
IsDraft d (Some e) = e ≡ d

-- an allocation failed, now or before, or the draft is changed so
abbrev pub Becomes : {A : Type 0} → Option (Draft A) → (Draft A → Draft A) → Option (Draft A) → Type 0
Becomes before change None = Unit {0}
Becomes None change (Some e) = ⊥
Becomes (Some d) change (Some e) = e ≡ change d

-- the same, where a STRING is appended to the body
abbrev pub AppendsText : {A : Type 0} → List ℕ → Option (Draft A) → Option (Draft A) → Type 0
AppendsText t before None = Unit {0}
AppendsText {A} t before (Some e) = (v : Value A) × (value_tree v ≡ TextValue STRING t) × Becomes before (with_value v) (Some e)

-- ---- the message

-- with the SIGNATURE field, if the body has values: the texts of their types
abbrev pub signed : {A : Type 0} → List (Value A) → List FieldTree → List FieldTree
signed [] fs = fs
signed (v ∷ vs) fs = put (field_of 8 (TextValue SIGNATURE (sigs (types_of (value_trees_of (v ∷ vs)))))) fs

abbrev pub draft_tree : {A : Type 0} → Draft A → MessageTree
draft_tree d = record { kind = d.kind; flags = d.flags; serial = d.serial; fields = signed d.body d.fields; body = value_trees_of d.body }

-- What a builder stands for, and which message it makes.
-- D-Bus Specification, "Message Format".

-- what the calls so far made, or nothing if an allocation failed
abbrev pub drafted : {A : Type 0} → MessageBuilder A → Option (Draft A)
drafted b = draft_in b.parts

-- of parts that are the draft's, the fault is the first that holds
abbrev pub IsFaultOf : {A : Type 0} → Draft A → BuildFault → Type 0
IsFaultOf {A} d f = (p : Parts A) × (parts_tree p ≡ draft_tree d) × (p.body.items ≡ d.body) × IsFirstFault specification p f

-- the draft's message, or the first fault of the draft's parts, or out of memory
abbrev pub IsComposed : {A : Type 0} → Option (Draft A) → Result (Message A) BuildFault → Type 0
IsComposed None (Ok m) = ⊥
IsComposed None (Err f) = f ≡ Memory
IsComposed (Some d) (Ok m) = message_tree m ≡ draft_tree d
IsComposed (Some d) (Err f) = (f ≡ Memory) ⊎ IsFaultOf d f
