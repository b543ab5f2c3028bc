-- Which types have numbers that may all stand.
use Rattle.std.proofs.Common.{◌≡◌, ℕ, ◌<◌, Option, refl, sym, arith}
use Rattle.dbus_texts.specs.Types.{NumberCode, BYTE, BOOLEAN, INT16, UINT16, INT32, UINT32, INT64, UINT64, DOUBLE, UNIX_FD, TypeTree, NumberType, TextType, VariantType, ArrayType, StructType, EntryType}
use Rattle.dbus_types.specs.Alignments.{width}
use Rattle.dbus_types.specs.SignatureCodes.{free_width_of}
use Rattle.dbus_value_model.specs.ValueReaders.{IsFree}

-- a type of which every number may stand
pub record FreeType (t : TypeTree) (w : ℕ) : Type 0 where
  pub code : NumberCode
  pub is : t ≡ NumberType code
  pub wide : width code ≡ w
  pub free : (fds : Option ℕ) → IsFree fds code

free_number : (t : TypeTree) (k : NumberCode) (w : ℕ) → t ≡ NumberType k → width k ≡ w → ((fds : Option ℕ) → IsFree fds k) → FreeType t w
free_number t k w e h f = record { code = k; is = e; wide = h; free = f }

-- what has no width is no such type
no_width : {A : Type 0} (w v : ℕ) → 0 < w → w ≡ v → v ≡ 0 → A
no_width w v some e z = absurd (omega arith)

pub free_is : (t : TypeTree) (w : ℕ) → 0 < w → w ≡ free_width_of t → FreeType t w
free_is (NumberType BYTE) w some e = free_number (NumberType BYTE) BYTE w refl (sym e) (λ fds p n. refl)
free_is (NumberType BOOLEAN) w some e = no_width w 0 some e refl
free_is (NumberType INT16) w some e = free_number (NumberType INT16) INT16 w refl (sym e) (λ fds p n. refl)
free_is (NumberType UINT16) w some e = free_number (NumberType UINT16) UINT16 w refl (sym e) (λ fds p n. refl)
free_is (NumberType INT32) w some e = free_number (NumberType INT32) INT32 w refl (sym e) (λ fds p n. refl)
free_is (NumberType UINT32) w some e = free_number (NumberType UINT32) UINT32 w refl (sym e) (λ fds p n. refl)
free_is (NumberType INT64) w some e = free_number (NumberType INT64) INT64 w refl (sym e) (λ fds p n. refl)
free_is (NumberType UINT64) w some e = free_number (NumberType UINT64) UINT64 w refl (sym e) (λ fds p n. refl)
free_is (NumberType DOUBLE) w some e = free_number (NumberType DOUBLE) DOUBLE w refl (sym e) (λ fds p n. refl)
free_is (NumberType UNIX_FD) w some e = no_width w 0 some e refl
free_is (TextType k) w some e = no_width w 0 some e refl
free_is VariantType w some e = no_width w 0 some e refl
free_is (ArrayType u) w some e = no_width w 0 some e refl
free_is (StructType ts) w some e = no_width w 0 some e refl
free_is (EntryType k v) w some e = no_width w 0 some e refl
