-- The computed reading of a value, in the parts that the code validates and checks.
-- D-Bus Specification, "Marshaling (Wire Format)".
use Rattle.std.specs.Prelude.{ℕ, ◌-◌, Option, ◌≡◌, List, drop, Result, Ok, Err, None}
use Rattle.dbus_texts.specs.Types.{NumberCode, TextCode, TypeTree, TypeTrees}
use Rattle.dbus_types.specs.Alignments.{width, length_width, alignment_of}
use Rattle.dbus_texts.specs.declared.text_kind.TextKind.TheVariants.{Single}
use Rattle.dbus_value_model.specs.WantedTexts.{kind_of, Of}
use Rattle.dbus_value_model.specs.declared.limits.Bounds.{Bounds}
use Rattle.dbus_value_model.specs.declared.order.Order.{Order}
use Rattle.dbus_value_model.specs.Values.{value_trees, ValueTree, NumberValue, TextValue, VariantValue, ArrayValue, StructValue, EntryValue}
use Rattle.dbus_value_model.specs.ValueItems.{number_row, text_row, array_row}
use Rattle.dbus_value_model.specs.Reading.{Reader, ◌>>=◌, ◌>>◌, pure, padding, number, text, nul, signature, contents, fields, opened, value, Outcome}
use Rattle.dbus_value_model.specs.Reading as reading
use Rattle.dbus_value_model.specs.declared.stop.Stop.{Stop}
use Rattle.dbus_value_model.specs.declared.stop.Stop.TheVariants as stops

-- a number; an index of a descriptor is below the number fds, where there is one
unfoldable pub number_value : (fds : Option ℕ) → Order → ℕ → NumberCode → Reader ValueTree
number_value fds order end k = do
  padding (width k) end
  n ← number order (width k) end (number_row fds k)
  pure (NumberValue k n)

-- a text
unfoldable pub text_value : Order → ℕ → TextCode → Reader ValueTree
text_value order end k = do
  padding (length_width k) end
  n ← number order (length_width k) end (text_row end)
  t ← text (kind_of k) n
  nul
  pure (TextValue k t)

-- a value with its type, within a container that is open
unfoldable pub held_value : Bounds → Order → ℕ → ℕ → Reader ValueTree
held_value bounds order depth_left end = do
  n ← number order 1 end (text_row end)
  held ← signature (Of Single) n
  nul
  x ← value bounds order depth_left end held
  pure (VariantValue x)

-- a value with its type
unfoldable pub variant_value : Bounds → Order → ℕ → ℕ → Reader ValueTree
variant_value bounds order depth_left end = opened depth_left (held_value bounds order (depth_left - 1) end)

-- an array's length and the padding after it
unfoldable pub array_frame : Bounds → Order → ℕ → TypeTree → Reader ℕ
array_frame bounds order end t = do
  n ← number order 4 end (array_row bounds t end)
  padding (alignment_of t) end
  pure n

-- an array after its first padding, within itself
unfoldable pub open_array : Bounds → Order → ℕ → ℕ → TypeTree → Reader ValueTree
open_array bounds order depth_left end t = do
  n ← array_frame bounds order end t
  xs ← contents n (λ end before. value bounds order depth_left end t)
  pure (ArrayValue t (value_trees xs))

-- an array
unfoldable pub array_value : Bounds → Order → ℕ → ℕ → TypeTree → Reader ValueTree
array_value bounds order depth_left end t = do
  padding 4 end
  opened depth_left (open_array bounds order (depth_left - 1) end t)

-- a struct's fields, within it
unfoldable pub open_struct : Bounds → Order → ℕ → ℕ → TypeTrees → Reader ValueTree
open_struct bounds order depth_left end ts = do
  xs ← fields (value bounds order depth_left end) ts
  pure (StructValue xs)

-- a struct
unfoldable pub struct_value : Bounds → Order → ℕ → ℕ → TypeTrees → Reader ValueTree
struct_value bounds order depth_left end ts = do
  padding 8 end
  opened depth_left (open_struct bounds order (depth_left - 1) end ts)

-- a dict entry
unfoldable pub entry_value : Bounds → Order → ℕ → ℕ → TypeTree → TypeTree → Reader ValueTree
entry_value bounds order depth_left end k v = do
  padding 8 end
  key ← value bounds order depth_left end k
  x ← value bounds order depth_left end v
  pure (EntryValue key x)

-- What a reader of the code returned is what the computed reading gives.

-- reading stops so too
abbrev pub Stops : {A : Type 0} → Stop → Outcome A → Type 0
Stops stops.Partial read = read ≡ reading.Partial
Stops (stops.Refused f) read = read ≡ reading.Faulty f

-- view gives what was read, and the place after it
abbrev pub Gives : {X A : Type 0} → (X → A × ℕ) → List ℕ → Result X Stop → Outcome A → Type 0
Gives view bytes (Ok x) read = read ≡ reading.Done (view x).0 (view x).1 (drop (view x).1 bytes)
Gives view bytes (Err e) read = Stops e read

-- Types of number of which every number may stand: all but BOOLEAN and, where there is a rule for
-- its indexes, UNIX_FD. D-Bus Specification, "Basic types".

-- every number may stand
abbrev pub IsFree : Option ℕ → NumberCode → Type 0
IsFree fds k = (p n : ℕ) → number_row fds k p n ≡ None
