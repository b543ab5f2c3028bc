-- A value as a reader of a line wants it. Of which types the values of a body are, its signature
-- says, which stands before them; only what a variant holds is of an unknown type.
-- D-Bus Specification, "Type System" and "Marshaling (Wire Format)".
use Rattle.std.specs.Prelude.{◌≡◌, ℕ, nat_eq, List, [], ◌∷◌, ◌++◌, true, false, Some, codes, if◌then◌else◌, from_bits}
use Rattle.std.specs.Float.{binary64, float_is_finite}
use Rattle.hex.specs.Hex.{encode_lower}
use Rattle.ryu.specs.Parse.{parse_float}
use Rattle.ryu.specs.Plain.{IsPlainNumber}
use Rattle.dbus_texts.specs.Types.{NumberCode, DOUBLE}
use Rattle.dbus_texts.specs.PlainTypes.{is_byte}
use Rattle.dbus_value_model.specs.Values.{ValueTree, ValueTrees, NumberValue, TextValue, VariantValue, ArrayValue, StructValue, EntryValue, NoValues, MoreValues}
use Rattle.dbus_show.specs.ShownValues.{bytes_in, joined, number_text, quoted}

-- a DOUBLE of 64 bits that is no finite number
abbrev pub other_double : (bits : ℕ) → List ℕ
other_double bits = if nat_eq bits 0x7ff0_0000_0000_0000 then codes "inf" else if nat_eq bits 0xfff0_0000_0000_0000 then codes "-inf" else codes "nan"

-- A DOUBLE of 64 bits, if it is finite, is a number that reads as the float of these bits.
pub record IsBriefDouble (bits : ℕ) (text : List ℕ) : Type 0 where
  pub finite : float_is_finite (from_bits binary64 bits) ≡ true → IsPlainNumber text × (parse_float binary64 text ≡ Some (from_bits binary64 bits))
  pub other : float_is_finite (from_bits binary64 bits) ≡ false → text ≡ other_double bits

-- any other number is in decimal, and a BOOLEAN true or false
abbrev pub IsBriefNumber : NumberCode → ℕ → List ℕ → Type 0
IsBriefNumber DOUBLE n text = IsBriefDouble n text
IsBriefNumber k n text = text ≡ number_text k n

-- texts in a row, in brackets
abbrev pub bracketed : (before after : List ℕ) → List (List ℕ) → List ℕ
bracketed before after texts = before ++ (joined texts ++ after)

-- A text stands between quotation marks, with its escapes. An array of BYTE is `0x` and two
-- hexadecimal digits for each byte. Each other container has brackets of its own.
abbrev mutual
  pub IsBrief : ValueTree → List ℕ → Type 0
  IsBrief (NumberValue k n) text = IsBriefNumber k n text
  IsBrief (TextValue k t) text = text ≡ quoted t
  IsBrief (ArrayValue t xs) text =
      (is_byte t ≡ true → text ≡ codes "0x" ++ encode_lower (bytes_in xs))
      × (is_byte t ≡ false → (items : List (List ℕ)) × AreBrief xs items × (text ≡ bracketed (codes "[") (codes "]") items))
  IsBrief (StructValue xs) text = (items : List (List ℕ)) × AreBrief xs items × (text ≡ bracketed (codes "(") (codes ")") items)
  IsBrief (EntryValue x y) text = (key value : List ℕ) × IsBrief x key × IsBrief y value × (text ≡ bracketed (codes "{") (codes "}") (key ∷ value ∷ []))
  IsBrief (VariantValue x) text = (value : List ℕ) × IsBrief x value × (text ≡ bracketed (codes "<") (codes ">") (value ∷ []))

  -- values, and the text of each
  pub AreBrief : ValueTrees → List (List ℕ) → Type 0
  AreBrief NoValues [] = Unit {0}
  AreBrief (MoreValues x xs) (text ∷ texts) = IsBrief x text × AreBrief xs texts
  AreBrief NoValues (text ∷ texts) = ⊥
  AreBrief (MoreValues x xs) [] = ⊥

-- ---- what stands before the parts of a container, and after them

abbrev pub open_text : ValueTree → List ℕ
open_text (NumberValue k n) = []
open_text (TextValue k t) = []
open_text (VariantValue x) = codes "<"
open_text (ArrayValue t xs) = codes "["
open_text (StructValue xs) = codes "("
open_text (EntryValue x y) = codes "{"

abbrev pub close_text : ValueTree → List ℕ
close_text (NumberValue k n) = []
close_text (TextValue k t) = []
close_text (VariantValue x) = codes ">"
close_text (ArrayValue t xs) = codes "]"
close_text (StructValue xs) = codes ")"
close_text (EntryValue x y) = codes "}"
