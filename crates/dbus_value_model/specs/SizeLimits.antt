-- What a size, or its refusal, says of a value's limits. D-Bus Specification, "Marshaling (Wire
-- Format)" for the arrays' limit, "Message Protocol" for the message's.
use Rattle.std.specs.Prelude.{◌≡◌, ℕ, ◌+◌, ◌<◌, ◌≤◌, ◌↔◌, length, Option, Some, None, Ok, Err, IfSome, ◌%◌, nat_lt, if◌then◌else◌, List, ◌++◌}
use Rattle.dbus_texts.specs.Types.{BYTE}
use Rattle.dbus_value_model.specs.declared.order.Order.{Order}
use Rattle.dbus_value_model.specs.declared.limits.Limits.{Limits}
use Rattle.dbus_value_model.specs.declared.value_fault.ValueFault.{ValueFault}
use Rattle.dbus_value_model.specs.declared.value_fault.ValueFault.TheVariants.{Memory, TooDeep, Mixed, Name, ArrayTooLong, TooLong}
use Rattle.dbus_value_model.specs.Values.{ValueTree, IsWellFormed, ValueTrees, NumberValue, VariantValue, StructValue, NoValues, MoreValues}
use Rattle.dbus_value_model.specs.Spelling.{spelling, IsWithinLimits, spellings, AreWithinLimits}
use Rattle.dbus_value_model.specs.Sizes.{HasShortSignatures, sized}
use Rattle.dbus_value_model.specs.declared.limits.TheConstants.{MESSAGE_LIMIT}
use Rattle.dbus_value_model.specs.Bytes.{pad}

-- no further than the open arrays and the message may go
abbrev pub Inside : Limits → Option ℕ → ℕ → Type 0
Inside limits bound e = IfSome bound (λ b. e ≤ b) × (e ≤ limits.message)

-- the end is past the bound of an open array
abbrev pub Past : Option ℕ → ℕ → Type 0
Past None e = ⊥
Past (Some b) e = b < e

-- what is refused, and would end at e: the message's limit is passed, or, where the arrays within
-- keep theirs, an open array's
abbrev pub Stops : Limits → Option ℕ → ValueFault → ℕ → Type 0 → Type 0
Stops limits bound TooLong e kept = limits.message < e
Stops limits bound ArrayTooLong e kept = kept → Past bound e
Stops limits bound Memory e kept = ⊥
Stops limits bound TooDeep e kept = ⊥
Stops limits bound Mixed e kept = ⊥
Stops limits bound Name e kept = ⊥

-- A size is given exactly where every array and the message keep their limits, and is where the
-- spelling ends.
abbrev pub SizeEnds : Type 0
SizeEnds = (limits : Limits) (order : Order) (v : ValueTree) (o e : ℕ) → o ≤ limits.message
    → (sized limits v None o ≡ Ok e) ↔ (IsWithinLimits limits.array order o v × (o + length (spelling order o v) ≡ e) × (e ≤ limits.message))

-- An array is too long only where one passes its limit, and the whole only where the message does.
abbrev pub SizeStops : Type 0
SizeStops = (limits : Limits) (order : Order) (v : ValueTree) (o : ℕ) (f : ValueFault) → o ≤ limits.message
    → sized limits v None o ≡ Err f → Stops limits None f (o + length (spelling order o v)) (IsWithinLimits limits.array order o v)

-- Each signature in a well-formed value has at most 255 bytes.
abbrev pub FormedIsShort : Type 0
FormedIsShort = (depth_left : ℕ) (v : ValueTree) → IsWellFormed depth_left v → HasShortSignatures v

-- Where values end, however far: what a measure has to know of an offset, and what it answers.
-- D-Bus Specification, "Marshaling (Wire Format)" for the arrays' limit, "Message Protocol" for the
-- message's.

-- An offset up to the message's limit and a step to a boundary beyond is kept. Of one further out
-- only the remainder modulo 8 is, since paddings depend on nothing more: so that a number stands
-- for any offset, and both limits can still be tested.
unfoldable pub capped : ℕ → ℕ
capped o = if nat_lt o (MESSAGE_LIMIT + 8) then o else MESSAGE_LIMIT + 8 + o % 8

-- an offset that stands so for others, or is itself
abbrev pub IsCapped : ℕ → Type 0
IsCapped o = o < MESSAGE_LIMIT + 16

-- what would end at e: its capped end where the arrays in it keep their limit, and nothing where
-- one does not
abbrev pub EndsAt : ℕ → Type 0 → Option ℕ → Type 0
EndsAt e kept None = ¬ kept
EndsAt e kept (Some p) = kept × (p ≡ capped e)

-- the end of a value at every offset that at stands for, in either byte order, where arrays have no
-- more than so many bytes
pub record IsMeasured (array : ℕ) (v : ValueTree) (at : ℕ) (end : Option ℕ) : Type 0 where
  pub from : (order : Order) (o : ℕ) → capped o ≡ at → EndsAt (o + length (spelling order o v)) (IsWithinLimits array order o v) end

-- the end of values one after the other
pub record AreMeasured (array : ℕ) (vs : ValueTrees) (at : ℕ) (end : Option ℕ) : Type 0 where
  pub from : (order : Order) (o : ℕ) → capped o ≡ at → EndsAt (o + length (spellings order o vs)) (AreWithinLimits array order o vs) end

-- a struct of a BYTE and a VARIANT, as each field of a message's header is
abbrev pub coded : ℕ → ValueTree → ValueTree
coded code x = StructValue (MoreValues (NumberValue BYTE code) (MoreValues (VariantValue x) NoValues))

-- An offset is within a limit on messages exactly where its capped one is, and both are one offset
-- there.
abbrev pub CappedTells : Type 0
CappedTells = (limits : Limits) (o : ℕ) → ((o ≤ limits.message) ↔ (capped o ≤ limits.message)) × (o ≤ limits.message → capped o ≡ o)

-- How many bytes spell a value, and whether the arrays in it keep their limit, depends on the
-- offset modulo 8 alone.
abbrev pub OffsetsRepeat : Type 0
OffsetsRepeat = (array : ℕ) (order : Order) (v : ValueTree) (o p : ℕ) → o % 8 ≡ p % 8
    → (length (spelling order o v) ≡ length (spelling order p v)) × (IsWithinLimits array order o v ↔ IsWithinLimits array order p v)

-- Bytes from the message's first byte on, with something more after them, which stands at the
-- offset where they end. D-Bus Specification, "Marshaling (Wire Format)".

-- up to the next multiple of a
unfoldable pub with_padding : ℕ → List ℕ → List ℕ
with_padding a front = front ++ pad a (length front)

unfoldable pub with_value : Order → ValueTree → List ℕ → List ℕ
with_value order v front = front ++ spelling order (length front) v

unfoldable pub with_values : Order → ValueTrees → List ℕ → List ℕ
with_values order vs front = front ++ spellings order (length front) vs
