-- How a value is seen where it stands, and which values are left after it.
-- D-Bus Specification, "Type System".
use Rattle.std.specs.Prelude.{◌≡◌, ℕ, ◌+◌, ◌<◌, List, length, if◌then◌else◌, Option, None, IfSome, MatchOption}
use Rattle.std.specs.Int.{cast_unsigned, w16, w32, w64}
use Rattle.dbus_texts.specs.Types.{BYTE, BOOLEAN, INT16, UINT16, INT32, UINT32, INT64, UINT64, DOUBLE, UNIX_FD, STRING, OBJECT_PATH, SIGNATURE, TypeTree, NumberType, sig}
use Rattle.dbus_types.specs.SignatureCodes.{first_code}
use Rattle.dbus_value_model.specs.declared.order.Order.{Order}
use Rattle.dbus_value_model.specs.Spelling.{spelling}
use Rattle.dbus_value_model.specs.Values.{ValueTree, ValueTrees, NumberValue, TextValue, VariantValue, ArrayValue, StructValue, EntryValue, NoValues, MoreValues, type_of}
use Rattle.dbus_value_model.specs.ValueViews.{byte_values}
use Rattle.dbus_walk.specs.Containers.{inside}
use Rattle.dbus_values.specs.States.{ValuesState, AreLeft, AreFewer, IsAfter, ElementsState, ElementsAreLeft, AreFewerElements, IsAfterElement, weight}
use Rattle.dbus_values.specs.declared.view.ValueView.{ValueView}
use Rattle.dbus_values.specs.declared.view.ValueView.TheVariants as view

-- The tree that a value seen so is: a number, a signed one as its two's complement and a DOUBLE as
-- its 64 bits; a text; the bytes of an array of BYTE; or another container, whose parts are left
-- where they stand.
abbrev pub IsSeen : ValueView → ValueTree → Type 0
IsSeen (view.Byte n) v = v ≡ NumberValue BYTE n
IsSeen (view.Bool b) v = v ≡ NumberValue BOOLEAN (if b then 1 else 0)
IsSeen (view.I16 z) v = v ≡ NumberValue INT16 (cast_unsigned w16 z)
IsSeen (view.U16 n) v = v ≡ NumberValue UINT16 n
IsSeen (view.I32 z) v = v ≡ NumberValue INT32 (cast_unsigned w32 z)
IsSeen (view.U32 n) v = v ≡ NumberValue UINT32 n
IsSeen (view.I64 z) v = v ≡ NumberValue INT64 (cast_unsigned w64 z)
IsSeen (view.U64 n) v = v ≡ NumberValue UINT64 n
IsSeen (view.Double n) v = v ≡ NumberValue DOUBLE n
IsSeen (view.Fd n) v = v ≡ NumberValue UNIX_FD n
IsSeen (view.Str s) v = v ≡ TextValue STRING s.now
IsSeen (view.Path s) v = v ≡ TextValue OBJECT_PATH s.now
IsSeen (view.Sig s) v = v ≡ TextValue SIGNATURE s.now
IsSeen (view.Bytes b) v = v ≡ ArrayValue (NumberType BYTE) (byte_values b.now)
IsSeen (view.Array e) v = (t : TypeTree) × (xs : ValueTrees) × (rest : List ℕ) × (v ≡ ArrayValue t xs) × (t ≡ NumberType BYTE → ⊥) × (sig t ≡ e.type) × ElementsAreLeft e xs rest
IsSeen (view.Struct s) v = (xs : ValueTrees) × (rest : List ℕ) × (v ≡ StructValue xs) × AreLeft s xs rest
IsSeen (view.Entry s) v = (x : ValueTree) × (y : ValueTree) × (rest : List ℕ) × (v ≡ EntryValue x y) × AreLeft s (MoreValues x (MoreValues y NoValues)) rest
IsSeen (view.Variant s) v = (x : ValueTree) × (rest : List ℕ) × (v ≡ VariantValue x) × AreLeft s (MoreValues x NoValues) rest

-- the parts of a value that stands at an offset are seen where the value has them, in the same
-- bytes
abbrev pub AreInside : Order → List ℕ → (at : ℕ) → ValueTree → ValuesState → Type 0
AreInside order bytes at v s = (s.order ≡ order) × (s.bytes ≡ bytes) × (s.at ≡ inside order at v)

-- the same of the elements of an array, which end where the array does; what has no parts is seen
-- by itself
abbrev pub AreSeenInside : Order → List ℕ → (at : ℕ) → ValueTree → ValueView → Type 0
AreSeenInside order bytes at v (view.Array e) = (e.order ≡ order) × (e.bytes ≡ bytes) × (e.at ≡ inside order at v) × (e.end ≡ at + length (spelling order at v))
AreSeenInside order bytes at v (view.Struct s) = AreInside order bytes at v s
AreSeenInside order bytes at v (view.Entry s) = AreInside order bytes at v s
AreSeenInside order bytes at v (view.Variant s) = AreInside order bytes at v s
AreSeenInside order bytes at v _ = Unit {0}

-- the first of some trees is seen so, and the others are left
abbrev pub IsFirst : ValuesState → ValueTrees → (rest : List ℕ) → ValueView → Type 0
IsFirst left xs rest seen = (x : ValueTree) × (us : ValueTrees) × (xs ≡ MoreValues x us) × IsSeen seen x × AreLeft left us rest

-- the type of the first of some trees begins with the code
abbrev pub IsFirstCode : ValueTrees → (code : ℕ) → Type 0
IsFirstCode xs code = (x : ValueTree) × (us : ValueTrees) × (xs ≡ MoreValues x us) × (first_code (type_of x) ≡ code)

-- the first of the trees that are left in an array is seen, and the others are left
abbrev pub IsFirstElement : ElementsState → ValueTrees → (rest : List ℕ) → ValueView → Type 0
IsFirstElement left xs rest seen = (x : ValueTree) × (us : ValueTrees) × (xs ≡ MoreValues x us) × IsSeen seen x × ElementsAreLeft left us rest

-- the weight of what is in a value; in a number and in a text there is nothing
abbrev pub weight_in : ValueView → ℕ
weight_in (view.Array e) = weight e.depth_left e.type
weight_in (view.Struct s) = weight s.depth_left s.types
weight_in (view.Entry s) = weight s.depth_left s.types
weight_in (view.Variant s) = weight s.depth_left s.types
weight_in _ = 0

-- A call of `next`: what is left before it, what it answers, and what is left after it. The first
-- of the trees is seen, its parts where it has them, and the others are left; or there are none,
-- and nothing moves. The others begin where the first ends, and both are less than what was left.
pub record PassesValue (before : ValuesState) (result : Option ValueView) (left : ValuesState) : Type 0 where
  pub first : (xs : ValueTrees) (rest : List ℕ) → AreLeft before xs rest → MatchOption result ((xs ≡ NoValues) × AreLeft left xs rest) (λ seen. IsFirst left xs rest seen)
  pub parts : (x : ValueTree) (us : ValueTrees) (rest : List ℕ) → AreLeft before (MoreValues x us) rest → IfSome result (λ seen. AreSeenInside before.order before.bytes before.at x seen)
  pub after : (x : ValueTree) (us : ValueTrees) (rest : List ℕ) → AreLeft before (MoreValues x us) rest → IsAfter before x left
  pub stays : result ≡ None → left ≡ before
  pub fewer : IfSome result (λ seen. (weight_in seen < weight before.depth_left before.types) × AreFewer left before)

pub record PassesElement (before : ElementsState) (result : Option ValueView) (left : ElementsState) : Type 0 where
  pub first : (xs : ValueTrees) (rest : List ℕ) → ElementsAreLeft before xs rest → MatchOption result ((xs ≡ NoValues) × ElementsAreLeft left xs rest) (λ seen. IsFirstElement left xs rest seen)
  pub parts : (x : ValueTree) (us : ValueTrees) (rest : List ℕ) → ElementsAreLeft before (MoreValues x us) rest → IfSome result (λ seen. AreSeenInside before.order before.bytes before.at x seen)
  pub after : (x : ValueTree) (us : ValueTrees) (rest : List ℕ) → ElementsAreLeft before (MoreValues x us) rest → IsAfterElement before x left
  pub stays : result ≡ None → left ≡ before
  pub fewer : IfSome result (λ seen. (weight_in seen < weight before.depth_left before.type) × AreFewerElements left before)
