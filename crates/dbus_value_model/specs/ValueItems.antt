-- Trusted by the headline.
-- The items of a value of each type, in their order, and so its faults: the table of types read
-- aloud. Spelling.antt says which bytes a value has, and so which bytes are accepted. Of bytes that
-- no value has it says nothing: which fault comes first, and at which place, depends on the order
-- of reading, and that stands here. That an item is passed is said by the spelling alone. D-Bus
-- Specification, "Marshalling containers"; docs/WIRE-FORMAT.md, "Types" and "Faults".
use Rattle.std.specs.Prelude.{ℕ, zero, suc, ◌+◌, if◌then◌else◌, nat_lt, Option, Some, None}
use Rattle.dbus_texts.specs.Types.{NumberCode, BOOLEAN, UNIX_FD, TypeTree, NumberType, TextType, VariantType, ArrayType, StructType, EntryType, TypeTrees, NoTypes, MoreTypes}
use Rattle.dbus_types.specs.Alignments.{width, length_width, alignment_of}
use Rattle.dbus_value_model.specs.WantedTexts.{kind_of, Of}
use Rattle.dbus_value_model.specs.declared.limits.Bounds.{Bounds}
use Rattle.dbus_value_model.specs.declared.order.Order.{Order}
use Rattle.dbus_value_model.specs.Bytes.{gap_to}
use Rattle.dbus_value_model.specs.Values.{value_trees, ValueTrees, NoValues, MoreValues, ValueTree, NumberValue, TextValue, VariantValue, ArrayValue, StructValue, EntryValue}
use Rattle.dbus_value_model.specs.Spelling.{Spelled}
use Rattle.dbus_value_model.specs.Items.{Item, ◌>>=◌, ◌>>◌, pure, refuse, padding, number, text, nul, signature, contents}
use Rattle.dbus_value_model.specs.declared.fault.Reason.{Reason}
use Rattle.dbus_value_model.specs.declared.fault.Reason.TheVariants as reasons
use Rattle.dbus_texts.specs.declared.text_kind.TextKind.TheVariants as kinds

-- an index of a descriptor: below the number fds, where there is one
abbrev pub index_row : Option ℕ → ℕ → Option Reason
index_row None n = None
index_row (Some limit) n = if nat_lt n limit then None else Some reasons.FdIndex

-- a number's own rows
abbrev pub number_row : (fds : Option ℕ) → NumberCode → ℕ → ℕ → Option Reason
number_row fds BOOLEAN p n = if nat_lt n 2 then None else Some reasons.Bool
number_row fds UNIX_FD p n = index_row fds n
number_row fds _ p n = None

-- a text's length: the text and its nul fit before the end
abbrev pub text_row : ℕ → ℕ → ℕ → Option Reason
text_row end p n = if nat_lt end (p + n + 1) then Some reasons.Overrun else None

-- an array's length
abbrev pub array_row : Bounds → TypeTree → ℕ → ℕ → ℕ → Option Reason
array_row bounds t end p n = if nat_lt bounds.array n then Some reasons.ArrayTooLong else if nat_lt end (p + gap_to (alignment_of t) p + n) then Some reasons.Overrun else None

-- a part is passed where a value of its type is spelled, whole
abbrev pub whole : Bounds → Order → ℕ → ℕ → TypeTree → Item ValueTree → Item ValueTree
whole bounds order depth_left end t items = record { Passed = Spelled bounds order depth_left end t; Refused = items.Refused }

abbrev pub fields : (TypeTree → Item ValueTree) → TypeTrees → Item ValueTrees
fields part NoTypes = pure NoValues
fields part (MoreTypes t ts) = do
  v ← part t
  vs ← fields part ts
  pure (MoreValues v vs)

-- a container is opened where there is room for one more
abbrev pub opened : {A : Type 0} → (depth_left : ℕ) → Item A → Item A
opened zero within = refuse reasons.TooDeep
opened (suc depth_left) within = within

-- inside end t: a part of type t within the container that is opened here
abbrev pub items : Bounds → Order → (depth_left : ℕ) → (ℕ → TypeTree → Item ValueTree) → ℕ → TypeTree → Item ValueTree
items bounds order depth_left inside end (NumberType k) = do
  padding (width k) end
  n ← number order (width k) end (number_row bounds.fds k)
  pure (NumberValue k n)
items bounds order depth_left inside end (TextType k) = do
  padding (length_width k) end
  n ← number order (length_width k) end (text_row end)
  t ← text (kind_of k) n
  nul
  pure (TextValue k t)
items bounds order depth_left inside end VariantType = opened depth_left (do
  n ← number order 1 end (text_row end)
  held ← signature (Of kinds.Single) n
  nul
  x ← inside end held
  pure (VariantValue x))
items bounds order depth_left inside end (ArrayType t) = do
  padding 4 end
  opened depth_left (do
    n ← number order 4 end (array_row bounds t end)
    padding (alignment_of t) end
    xs ← contents n (λ end before. inside end t)
    pure (ArrayValue t (value_trees xs)))
items bounds order depth_left inside end (StructType ts) = do
  padding 8 end
  opened depth_left (do
    xs ← fields (inside end) ts
    pure (StructValue xs))
items bounds order depth_left inside end (EntryType k v) = do
  padding 8 end
  key ← whole bounds order depth_left end k (items bounds order depth_left inside end k)
  x ← whole bounds order depth_left end v (items bounds order depth_left inside end v)
  pure (EntryValue key x)

abbrev pub nowhere : ℕ → TypeTree → Item ValueTree
nowhere end t = refuse reasons.TooDeep

-- a wanted value of type t, with room for so many open containers
abbrev pub value : Bounds → Order → (depth_left : ℕ) → ℕ → TypeTree → Item ValueTree
value bounds order zero end t = whole bounds order zero end t (items bounds order zero nowhere end t)
value bounds order (suc depth_left) end t = whole bounds order (suc depth_left) end t (items bounds order (suc depth_left) (value bounds order depth_left) end t)
