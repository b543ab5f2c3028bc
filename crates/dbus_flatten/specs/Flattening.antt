-- Values as a row of items: each container comes before its parts.
-- D-Bus Specification, "Type System" and "Marshaling (Wire Format)".
use Rattle.std.specs.Prelude.{◌≡◌, ℕ, ◌+◌, ◌-◌, ◌<◌, ◌^◌, List, [], ◌∷◌, ◌++◌, length, take, drop, nat_lt, if◌then◌else◌, suc, true, false, get_or, set, map}
use Rattle.dbus_texts.specs.Types.{sig, number_code, text_code}
use Rattle.dbus_types.specs.Alignments.{width, length_width}
use Rattle.dbus_types.specs.SignatureCodes.{first_code}
use Rattle.dbus_value_model.specs.Bytes.{gap_to}
use Rattle.dbus_value_model.specs.declared.order.Order.{Order}
use Rattle.dbus_value_model.specs.Spelling.{spelling, spellings, contents_start, ended_text}
use Rattle.dbus_value_model.specs.Values.{ValueTree, ValueTrees, NumberValue, TextValue, VariantValue, ArrayValue, StructValue, EntryValue, NoValues, MoreValues, type_of, value_trees}
use Rattle.dbus_message_model.specs.Messages.{FieldTree, field_struct}
use Rattle.dbus_walk.specs.Containers.{number_width}
use Rattle.dbus_flatten.specs.declared.flat_item.FlatItem.{FlatItem}
use Rattle.dbus_flatten.specs.declared.flattener.Flattener.{Flattener}
use Rattle.dbus_flatten.specs.declared.parts.PartsCount.{PartsCount}

-- the item of a value at an offset that has so many items within it: its number, its bytes, its
-- first code, and its elements' first code
abbrev pub item : Order → (at : ℕ) → ValueTree → (within : ℕ) → FlatItem
item order at (NumberValue k n) within = record { number = n; offset = at + gap_to (width k) at; length = width k; code = number_code k; element = 0 }
item order at (TextValue k t) within = record { number = 0; offset = at + gap_to (length_width k) at + length_width k; length = length t; code = text_code k; element = 0 }
item order at (VariantValue x) within = record { number = within; offset = at + 1; length = length (sig (type_of x)); code = 118; element = 0 }
item order at (ArrayValue t xs) within = record { number = within; offset = contents_start t at; length = length (spellings order (contents_start t at) xs); code = 97; element = first_code t }
item order at (StructValue xs) within = record { number = within; offset = at + gap_to 8 at; length = 0; code = 40; element = 0 }
item order at (EntryValue x y) within = record { number = within; offset = at + gap_to 8 at; length = 0; code = 123; element = 0 }

-- the items of a value at an offset, of which these are within it
abbrev pub with_item : Order → (at : ℕ) → ValueTree → (within : List FlatItem) → List FlatItem
with_item order at v within = item order at v (length within) ∷ within

-- the items of a value at an offset: its own, and then those of its parts; an array of numbers has
-- its own alone
unfoldable mutual
  pub flat : Order → (at : ℕ) → ValueTree → List FlatItem
  flat order at (NumberValue k n) = with_item order at (NumberValue k n) []
  flat order at (TextValue k t) = with_item order at (TextValue k t) []
  flat order at (VariantValue x) = with_item order at (VariantValue x) (flat order (at + length (ended_text order 1 (sig (type_of x)))) x)
  flat order at (ArrayValue t xs) = with_item order at (ArrayValue t xs) (if nat_lt 0 (number_width t) then [] else flats order (contents_start t at) xs)
  flat order at (StructValue xs) = with_item order at (StructValue xs) (flats order (at + gap_to 8 at) xs)
  flat order at (EntryValue x y) =
      let key = at + gap_to 8 at in
      with_item order at (EntryValue x y) (flat order key x ++ flat order (key + length (spelling order key x)) y)

  -- of values one after another
  pub flats : Order → (at : ℕ) → ValueTrees → List FlatItem
  flats order at NoValues = []
  flats order at (MoreValues x xs) = flat order at x ++ flats order (at + length (spelling order at x)) xs

-- a number as a word of 64 bits has it: no greater one than the greatest
abbrev pub in_word : ℕ → ℕ
in_word n = if nat_lt n (2 ^ 64 - 1) then n else 2 ^ 64 - 1

-- items over those before, from the start on, as many as there is room for; what stood after them
-- stays
abbrev pub over : List FlatItem → (before : List FlatItem) → List FlatItem
over items before = take (length before) items ++ drop (length items) before

-- the row has so many items, and those from a number on stand over those before
pub record AreOver (row : List FlatItem) (first : ℕ) (before out : List FlatItem) (count : ℕ) : Type 0 where
  pub counted : count ≡ in_word (length row)
  pub written : count < 2 ^ 64 - 1 → out ≡ over (drop first row) before

-- the items of these values do
abbrev pub AreFlat : Order → (at : ℕ) → ValueTrees → (first : ℕ) → (before out : List FlatItem) → (count : ℕ) → Type 0
AreFlat order at vs first before out count = AreOver (flats order at vs) first before out count

-- the items of header fields, of which each is a struct, that begin behind the first 16 bytes
abbrev pub flat_fields : Order → List FieldTree → List FlatItem
flat_fields order fs = flats order 16 (value_trees (map field_struct fs))

-- the items of these header fields, and then those of these values at an offset, are one row
pub record ArePartsFlat (order : Order) (fs : List FieldTree) (at : ℕ) (vs : ValueTrees) (first : ℕ) (before out : List FlatItem) (count : PartsCount) : Type 0 where
  pub fields : count.fields ≡ in_word (length (flat_fields order fs))
  pub all : AreOver (flat_fields order fs ++ flats order at vs) first before out count.all

-- What a flattener does: it gathers items, and counts those within a container.

-- the item of a place in the row, put among those that are written, the first of which has another
-- place, if there is room
abbrev pub put : (first place : ℕ) → List FlatItem → FlatItem → List FlatItem
put first place out i = if nat_lt place first then out else set out (place - first) i

-- items put so one after another
abbrev pub puts : (first place : ℕ) → List FlatItem → List FlatItem → List FlatItem
puts first place out [] = out
puts first place out (i ∷ is) = puts first (suc place) (put first place out i) is

-- it gains items, which come after those before in the row
pub record Appends (before : Flattener) (items : List FlatItem) (now : Flattener) : Type 0 where
  pub same : now.out.ghost_name ≡ before.out.ghost_name
  pub first : now.first ≡ before.first
  pub counted : in_word now.count ≡ in_word (before.count + length items)
  pub written : before.count + length items < 2 ^ 64 - 1 → now.out.now ≡ puts before.first before.count before.out.now items

-- it gains items of parts, and the place of the container that they are within stays
pub record Gains (before : Flattener) (place : ℕ) (items : List FlatItem) (later : ℕ) (now : Flattener) : Type 0 where
  pub gained : Appends before items now
  pub stays : later ≡ place

-- an item with another number
abbrev pub numbered : FlatItem → ℕ → FlatItem
numbered i n = record { number = n; offset = i.offset; length = i.length; code = i.code; element = i.element }

-- the item at a place has the number of those after it
pub record Counts (before : Flattener) (place : ℕ) (now : Flattener) : Type 0 where
  pub same : now.out.ghost_name ≡ before.out.ghost_name
  pub first : now.first ≡ before.first
  pub kept : now.count ≡ before.count
  pub written : (i : FlatItem) → now.out.now ≡ put before.first place before.out.now (numbered (get_or before.out.now (place - before.first) i) (before.count - (place + 1)))

-- it is a container, and no array of numbers
abbrev pub IsListed : ValueTree → Type 0
IsListed (NumberValue k n) = ⊥
IsListed (TextValue k t) = ⊥
IsListed (ArrayValue t xs) = nat_lt 0 (number_width t) ≡ false
IsListed _ = Unit {0}

-- the container closes whose item has a place, within one whose place stays
pub record Closes (before : Flattener) (outer place later : ℕ) (now : Flattener) : Type 0 where
  pub counts : Counts before place now
  pub stays : later ≡ outer

-- it is an array of numbers
abbrev pub IsStroke : ValueTree → Type 0
IsStroke (ArrayValue t xs) = nat_lt 0 (number_width t) ≡ true
IsStroke _ = ⊥

-- it gains a container's item, at a place
pub record Opens (before : Flattener) (order : Order) (at : ℕ) (v : ValueTree) (place : ℕ) (now : Flattener) : Type 0 where
  pub listed : IsListed v
  pub placed : place ≡ before.count
  pub gained : Appends before (item order at v 0 ∷ []) now
