-- Worked examples of values: their spellings by the definitions, and the outcome of some bytes by
-- the plain reader beside them. D-Bus Specification, "Marshaling (Wire Format)".
use Rattle.std.proofs.Common.{◌≡◌, ℕ, List, [], ◌∷◌, map, Option, None, Some, refl}
use Rattle.dbus_texts.specs.Types.{NumberType, EntryType, BYTE, UINT16, INT64, UINT64, UNIX_FD, ArrayType}
use Rattle.dbus_value_model.specs.declared.order.Order.TheVariants.{Little, Big}
use Rattle.dbus_value_model.specs.declared.fault.Reason.TheVariants as reasons
use Rattle.dbus_value_model.specs.Values.{ValueTree, NoValues, MoreValues, NumberValue, VariantValue, ArrayValue, StructValue, EntryValue}
use Rattle.dbus_value_model.specs.Bytes.{gap_to, num, low_first}
use Rattle.dbus_value_model.specs.Specification.{specification}
use Rattle.dbus_value_model.specs.Bounds.{bounds_of, bounds_with}
use Rattle.dbus_value_model.specs.Spelling.{spelling, spellings}
use Rattle.dbus_value_model.specs.Items.{fault}
use Rattle.dbus_value_model.specs.Reading.{Outcome, Done, Faulty, Partial, padding, number, number_of, value}

abbrev five : ValueTree
five = ArrayValue (NumberType UINT64) (MoreValues (NumberValue UINT64 5) NoValues)

abbrev pair : ℕ → ℕ → ValueTree
pair k v = EntryValue (NumberValue BYTE k) (NumberValue BYTE v)

-- -2 in two's complement
abbrev minus_two : ValueTree
minus_two = VariantValue (NumberValue INT64 18_446_744_073_709_551_614)

-- values as they are spelled, and the bytes
abbrev spelled : List (List ℕ × List ℕ)
spelled =
    -- An array of UINT64 5, from offset 0 ("Marshalling containers")
    (spelling Little 0 five, 8 ∷ 0 ∷ 0 ∷ 0 ∷ 0 ∷ 0 ∷ 0 ∷ 0 ∷ 5 ∷ 0 ∷ 0 ∷ 0 ∷ 0 ∷ 0 ∷ 0 ∷ 0 ∷ []) ∷
    -- The same from offset 4: the padding before its first element is none ("Marshalling
    -- containers")
    (spelling Little 4 five, 8 ∷ 0 ∷ 0 ∷ 0 ∷ 5 ∷ 0 ∷ 0 ∷ 0 ∷ 0 ∷ 0 ∷ 0 ∷ 0 ∷ []) ∷
    -- A dictionary of BYTE 1 to 2 and 1 to 3, from offset 0 ("Marshalling containers")
    (spelling Little 0 (ArrayValue (EntryType (NumberType BYTE) (NumberType BYTE)) (MoreValues (pair 1 2) (MoreValues (pair 1 3) NoValues))), 10 ∷ 0 ∷ 0 ∷ 0 ∷ 0 ∷ 0 ∷ 0 ∷ 0 ∷ 1 ∷ 2 ∷ 0 ∷ 0 ∷ 0 ∷ 0 ∷ 0 ∷ 0 ∷ 1 ∷ 3 ∷ []) ∷
    -- A variant of INT64 -2, from offset 0 ("Marshalling containers")
    (spelling Little 0 minus_two, 1 ∷ 120 ∷ 0 ∷ 0 ∷ 0 ∷ 0 ∷ 0 ∷ 0 ∷ 254 ∷ 255 ∷ 255 ∷ 255 ∷ 255 ∷ 255 ∷ 255 ∷ 255 ∷ []) ∷
    -- The same in big endian ("Marshalling containers")
    (spelling Big 0 minus_two, 1 ∷ 120 ∷ 0 ∷ 0 ∷ 0 ∷ 0 ∷ 0 ∷ 0 ∷ 255 ∷ 255 ∷ 255 ∷ 255 ∷ 255 ∷ 255 ∷ 255 ∷ 254 ∷ []) ∷
    -- A struct of BYTE 1 and UINT16 2, from offset 1 ("Marshalling containers")
    (spelling Little 1 (StructValue (MoreValues (NumberValue BYTE 1) (MoreValues (NumberValue UINT16 2) NoValues))), 0 ∷ 0 ∷ 0 ∷ 0 ∷ 0 ∷ 0 ∷ 0 ∷ 1 ∷ 0 ∷ 2 ∷ 0 ∷ []) ∷
    []

each_is_spelled_so : map (λ e. e.0) spelled ≡ map (λ e. e.1) spelled
unfolding spelling spellings gap_to num low_first
each_is_spelled_so = refl

-- reading the array at the start, with so many containers left to open and an end
abbrev read_five : ℕ → ℕ → List ℕ → Outcome ValueTree
read_five depth_left end bytes = value (bounds_of specification) Little depth_left end (ArrayType (NumberType UINT64)) 0 bytes

-- reading an array of an index of 1 at the start, where indexes are to be below a number
abbrev read_index : Option ℕ → Outcome ValueTree
read_index fds = value (bounds_with specification fds) Little 64 8 (ArrayType (NumberType UNIX_FD)) 0 (4 ∷ 0 ∷ 0 ∷ 0 ∷ 1 ∷ 0 ∷ 0 ∷ 0 ∷ [])

abbrev index_of_one : Outcome ValueTree
index_of_one = Done (ArrayValue (NumberType UNIX_FD) (MoreValues (NumberValue UNIX_FD 1) NoValues)) 8 []

-- what is read, and the outcome
abbrev outcomes : List (Outcome ValueTree × Outcome ValueTree)
outcomes =
    -- array read back
    (read_five 64 16 (8 ∷ 0 ∷ 0 ∷ 0 ∷ 0 ∷ 0 ∷ 0 ∷ 0 ∷ 5 ∷ 0 ∷ 0 ∷ 0 ∷ 0 ∷ 0 ∷ 0 ∷ 0 ∷ []), Done five 16 []) ∷
    -- array without its last byte
    (read_five 64 16 (8 ∷ 0 ∷ 0 ∷ 0 ∷ 0 ∷ 0 ∷ 0 ∷ 0 ∷ 5 ∷ 0 ∷ 0 ∷ 0 ∷ 0 ∷ 0 ∷ 0 ∷ []), Partial) ∷
    -- array past its end
    (read_five 64 15 (8 ∷ 0 ∷ 0 ∷ 0 ∷ 0 ∷ 0 ∷ 0 ∷ 0 ∷ 5 ∷ 0 ∷ 0 ∷ 0 ∷ 0 ∷ 0 ∷ 0 ∷ 0 ∷ []), Faulty (fault 0 reasons.Overrun)) ∷
    -- array too deep
    (read_five 0 16 (8 ∷ []), Faulty (fault 0 reasons.TooDeep)) ∷
    -- index below two
    (read_index (Some 2), index_of_one) ∷
    -- index at the number
    (read_index (Some 1), Faulty (fault 4 reasons.FdIndex)) ∷
    -- any index
    (read_index None, index_of_one) ∷
    []

each_is_read_so : map (λ e. e.0) outcomes ≡ map (λ e. e.1) outcomes
unfolding value padding number number_of gap_to
each_is_read_so = refl
