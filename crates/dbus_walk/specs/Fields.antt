-- Header fields as they stand among a message's bytes.
-- D-Bus Specification, "Message Format" and "Header Fields".
use Rattle.std.specs.Prelude.{◌≡◌, ℕ, ◌+◌, ◌-◌, ◌<◌, ◌≤◌, List, ◌∷◌, length, map, codes}
use Rattle.dbus_texts.specs.Types.{IsSingleType, array_code}
use Rattle.dbus_value_model.specs.Bytes.{gap_to}
use Rattle.dbus_value_model.specs.Spelling.{spelling}
use Rattle.dbus_value_model.specs.Values.{VariantValue, value_trees, type_of}
use Rattle.dbus_message_model.specs.Messages.{FieldTree, field_struct, field_array}
use Rattle.dbus_walk.specs.Containers.{inside}
use Rattle.dbus_walk.specs.Standing.{Stands, ElementsStand}
use Rattle.dbus_walk.specs.declared.fields.FieldSpot.{FieldSpot}
use Rattle.dbus_walk.specs.declared.spot.MessageBytes.{MessageBytes}

-- the type of a field
abbrev pub field_types : List ℕ
field_types = codes "(yv)"

-- A message's header fields stand in it: an array of the type a(yv), at offset 12. So many
-- containers may be open in the message.
abbrev pub FieldsStand : MessageBytes → (depth_left : ℕ) → List FieldTree → (rest : List ℕ) → Type 0
FieldsStand source depth_left fs rest = Stands source.order depth_left (array_code ∷ field_types) 12 source.bytes.now (field_array fs) rest

-- fields of that array stand from an offset up to its end, and rest are the bytes after it
pub record FieldsLeft (source : MessageBytes) (depth_left at end : ℕ) (fs : List FieldTree) (rest : List ℕ) : Type 0 where
  pub some : 0 < depth_left
  pub stand : ElementsStand source.order (depth_left - 1) field_types at end source.bytes.now (value_trees (map field_struct fs)) rest

-- a field of that array stands at an offset: a struct of the type (yv)
pub record FieldStands (source : MessageBytes) (depth_left at : ℕ) (f : FieldTree) (rest : List ℕ) : Type 0 where
  pub some : 0 < depth_left
  pub stands : Stands source.order (depth_left - 1) field_types at source.bytes.now (field_struct f) rest

-- the offset after it
abbrev pub field_end : MessageBytes → ℕ → FieldTree → ℕ
field_end source at f = at + length (spelling source.order at (field_struct f))

-- the field that stands at an offset has this code, and its value, of a single complete type,
-- stands here: the variant after the code holds it
pub record IsFieldAt (source : MessageBytes) (at : ℕ) (f : FieldTree) (rest : List ℕ) (spot : FieldSpot) : Type 0 where
  pub code : f.code ≡ spot.code
  pub few : length spot.types.now ≤ 255
  pub single : IsSingleType (type_of f.value)
  pub begins : spot.at ≡ inside source.order (at + gap_to 8 at + 1) (VariantValue f.value)
  pub value : Stands source.order spot.depth_left spot.types.now spot.at source.bytes.now f.value rest
  pub ends : spot.at + length (spelling source.order spot.at f.value) ≡ field_end source at f
