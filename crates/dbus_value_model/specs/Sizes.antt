-- Where a value ends, and the first item, in order, whose end passes a bound: that of an open
-- array, so many bytes from the start of its contents, or that of the message, so many from its
-- first byte. D-Bus Specification, "Marshaling (Wire Format)" for the items and the arrays' limit,
-- "Message Protocol" for the message's.
use Rattle.std.specs.Prelude.{ℕ, ◌+◌, min, Bool, false, length, Option, Some, None, Result, Ok, Err, nat_eq, nat_lt, if◌then◌else◌, ◌<◌}
use Rattle.dbus_texts.specs.Types.{sig, TextCode, STRING, OBJECT_PATH, SIGNATURE}
use Rattle.dbus_types.specs.Alignments.{width, length_width, alignment_of}
use Rattle.dbus_value_model.specs.declared.limits.Limits.{Limits}
use Rattle.dbus_value_model.specs.declared.value_fault.ValueFault.{ValueFault}
use Rattle.dbus_value_model.specs.declared.value_fault.ValueFault.TheVariants.{ArrayTooLong, TooLong}
use Rattle.dbus_value_model.specs.Values.{ValueTree, ValueTrees, NoValues, MoreValues, NumberValue, TextValue, VariantValue, ArrayValue, StructValue, EntryValue, type_of}
use Rattle.dbus_value_model.specs.Bytes.{gap_to}

-- from an offset to where something ends, or why it may not stand there
abbrev pub Sizing : Type 0
Sizing = ℕ → Result ℕ ValueFault

abbrev pub and_then : Result ℕ ValueFault → Sizing → Result ℕ ValueFault
and_then (Ok o) s = s o
and_then (Err f) s = Err f

-- one after the other
infixr 6 ◌⊳◌
abbrev pub ◌⊳◌ : Sizing → Sizing → Sizing
(s ⊳ t) o = and_then (s o) t

-- the end is past where the contents of the open arrays may go
abbrev pub passes : Option ℕ → ℕ → Bool
passes None e = false
passes (Some b) e = nat_lt b e

-- one item of n bytes; bound is the least bound of an open array
unfoldable pub item : Limits → Option ℕ → ℕ → Sizing
item limits bound n o =
    if passes bound (o + n) then Err ArrayTooLong else if nat_lt limits.message (o + n) then Err TooLong else Ok (o + n)

-- the padding to a boundary is an item where there is any
unfoldable pub padding : Limits → Option ℕ → ℕ → Sizing
padding limits bound a o = if nat_eq (gap_to a o) 0 then Ok o else item limits bound (gap_to a o) o

-- the least bound within an array whose contents start at o
unfoldable pub narrowed : Limits → Option ℕ → ℕ → Option ℕ
narrowed limits None o = Some (o + limits.array)
narrowed limits (Some b) o = Some (min b (o + limits.array))

unfoldable pub contents : Limits → (Option ℕ → Sizing) → Option ℕ → Sizing
contents limits s bound o = s (narrowed limits bound o) o

abbrev mutual
  pub sized : Limits → ValueTree → Option ℕ → Sizing
  sized limits (NumberValue k n) b = padding limits b (width k) ⊳ item limits b (width k)
  sized limits (TextValue k t) b = padding limits b (length_width k) ⊳ item limits b (length_width k) ⊳ item limits b (length t) ⊳ item limits b 1
  sized limits (VariantValue x) b = item limits b 1 ⊳ item limits b (length (sig (type_of x))) ⊳ item limits b 1 ⊳ sized limits x b
  sized limits (ArrayValue t xs) b = padding limits b 4 ⊳ item limits b 4 ⊳ padding limits b (alignment_of t) ⊳ contents limits (sizes limits xs) b
  sized limits (StructValue xs) b = padding limits b 8 ⊳ sizes limits xs b
  sized limits (EntryValue k v) b = padding limits b 8 ⊳ sized limits k b ⊳ sized limits v b

  pub sizes : Limits → ValueTrees → Option ℕ → Sizing
  sizes limits NoValues b = λ o. Ok o
  sizes limits (MoreValues x xs) b = sized limits x b ⊳ sizes limits xs b

-- Values whose signatures have at most 255 bytes each, so that one byte gives the length: those in
-- SIGNATURE texts, and those of the types of variants. D-Bus Specification, "Valid Signatures".

-- a text's length fits into the number before it, where that is one byte
abbrev pub IsShortText : TextCode → ℕ → Type 0
IsShortText STRING n = Unit {0}
IsShortText OBJECT_PATH n = Unit {0}
IsShortText SIGNATURE n = n < 256

abbrev mutual
  pub HasShortSignatures : ValueTree → Type 0
  HasShortSignatures (NumberValue k n) = Unit {0}
  HasShortSignatures (TextValue k t) = IsShortText k (length t)
  HasShortSignatures (VariantValue x) = (length (sig (type_of x)) < 256) × HasShortSignatures x
  HasShortSignatures (ArrayValue t xs) = HaveShortSignatures xs
  HasShortSignatures (StructValue xs) = HaveShortSignatures xs
  HasShortSignatures (EntryValue k v) = HasShortSignatures k × HasShortSignatures v

  pub HaveShortSignatures : ValueTrees → Type 0
  HaveShortSignatures NoValues = Unit {0}
  HaveShortSignatures (MoreValues x xs) = HasShortSignatures x × HaveShortSignatures xs
