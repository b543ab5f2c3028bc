-- Values that stand in the bytes, taken apart as they are written: numbers, texts, arrays and other
-- containers.
use Rattle.std.proofs.Common.{◌≡◌, ℕ, ◌+◌, ◌-◌, ◌<◌, List, get_or, take, drop, length, true, false, refl, sym, ap, subst, ◌∙◌, arith}
use Rattle.std.specs.Prelude.{◌==◌}
use Rattle.std.proofs.lemmas.Bool.{eqb-true}
use Rattle.std.specs.Str.{IsAscii}
use Rattle.std.proofs.lemmas.List.{take_at}
use Rattle.dbus_texts.specs.Types.{BYTE, TypeTree, NumberType, number_code, text_code, sig, sigs}
use Rattle.dbus_texts.specs.PlainTypes.{is_byte}
use Rattle.dbus_types.specs.Alignments.{width}
use Rattle.dbus_types.specs.SignatureCodes.{first_code}
use Rattle.dbus_types.proofs.TypeCodes.{code_is}
use Rattle.dbus_value_model.specs.Bytes.{gap_to}
use Rattle.dbus_value_model.specs.Reading.{number_of}
use Rattle.dbus_value_model.specs.declared.order.Order.{Order}
use Rattle.dbus_value_model.specs.Spelling.{spellings, contents_start}
use Rattle.dbus_value_model.specs.Values.{ValueTree, NumberValue, TextValue, VariantValue, ArrayValue, StructValue, EntryValue, type_of, types_of, AllOf}
use Rattle.dbus_walk.specs.Containers.{IsOf, parts}
use Rattle.dbus_walk.specs.declared.container.Container.{Container}
use Rattle.dbus_walk.specs.declared.container.Container.TheVariants as kind
use Rattle.dbus_walk.specs.Standing.{Stands}
use Rattle.dbus_walk.proofs.Containers.{ArrayStands, elements_there}
use Rattle.dbus_walk.proofs.Parts.{NumberStands, TextStands}
use Rattle.dbus_walk.proofs.ReadThere.{number_read}
use Rattle.dbus_show.specs.ShownValues.{bytes_in}
use Rattle.dbus_value_text.specs.Forms.{IsListed, told_types}
use Rattle.dbus_value_text.proofs.Rows.{types_ascii, byte_is, not_byte, bytes_spelled}

-- a container other than an array opens
pub told_parts : (what : Container) (v : ValueTree) → IsOf what v → (what ≡ kind.Array → ⊥) → IsListed v × (told_types v ≡ sigs (types_of (parts v)))
told_parts kind.Array v is other = absurd (other refl)
told_parts kind.Variant (VariantValue x) is other = (tt, refl)
told_parts kind.Struct (StructValue xs) is other = (tt, refl)
told_parts kind.Entry (EntryValue x y) is other = (tt, refl)
told_parts what v is other = absurd is

pub stroke_is : (c : ℕ) → (c == 121) ≡ true → c ≡ 121
stroke_is c e = eqb-true c 121 e

module _ {order : Order} {depth_left : ℕ} {types : List ℕ} {at : ℕ} {bytes : List ℕ} {v : ValueTree} {rest : List ℕ} (s : Stands order depth_left types at bytes v rest) where
  pub all_ascii : IsAscii types
  all_ascii = types_ascii (type_of v) types s.text

  pub code_ascii : get_or types 0 0 < 128
  code_ascii = all_ascii 0

  -- ---- numbers

  module _ (size start : ℕ) (p : NumberStands s size) (place : start ≡ at + gap_to size at) where
    pub number_coded : number_code p.code ≡ get_or types 0 0
    number_coded = ap (λ (u : ValueTree). first_code (type_of u)) (sym p.is) ∙ code_is (type_of v) types s.text

    pub number_there : NumberValue p.code (number_of order (take (width p.code) (drop start bytes))) ≡ v
    number_there =
        ap (λ (k : ℕ). NumberValue p.code k) (ap (λ (k : ℕ). number_of order (take k (drop start bytes))) p.wide ∙ number_read s size start p place) ∙ sym p.is

  -- ---- texts

  module _ (size : ℕ) (p : TextStands s size) where
    pub text_coded : text_code p.code ≡ get_or types 0 0
    text_coded = ap (λ (u : ValueTree). first_code (type_of u)) (sym p.is) ∙ code_is (type_of v) types s.text

    pub text_held : (t : List ℕ) → t ≡ p.text → TextValue p.code t ≡ v
    text_held t is = ap (TextValue p.code) is ∙ sym p.is

  -- ---- arrays

  module _ (p : ArrayStands s) where
    pub array_told : told_types v ≡ types
    array_told = ap told_types p.is ∙ sym (ap (λ (u : ValueTree). sig (type_of u)) p.is) ∙ s.text

    -- the bytes of an array of BYTE
    pub bytes_held : (first end : ℕ) → first ≡ contents_start p.type at → end ≡ first + p.n → get_or types 1 0 ≡ 121
        → (bytes_in p.xs ≡ take (end - first) (drop first bytes)) × (ArrayValue (NumberType BYTE) p.xs ≡ v)
    bytes_held first end begins ends byte =
        let there = elements_there s p first p.n begins refl in
        let is : p.type ≡ NumberType BYTE = byte_is p.type (p.code ∙ byte) in
        let all : AllOf (NumberType BYTE) p.xs = subst (λ (t : TypeTree). AllOf t p.xs) is p.all in
        let same : spellings order first p.xs ≡ bytes_in p.xs = bytes_spelled order (depth_left - 1) first p.xs all there.formed in
        let long : length (spellings order first p.xs) ≡ end - first = omega (arith, there.ends, ends) in (
          sym (ap (take (end - first)) there.spelled ∙ take_at (spellings order first p.xs) rest (end - first) long ∙ same),
          ap (λ (t : TypeTree). ArrayValue t p.xs) (sym is) ∙ sym p.is,
        )

    pub array_listed : (get_or types 1 0 == 121) ≡ false → IsListed v
    array_listed differs =
        let test : is_byte p.type ≡ false = not_byte p.type (λ e. other (sym p.code ∙ e)) in
        subst IsListed (sym p.is) test
      where
        other : get_or types 1 0 ≡ 121 → ⊥
        other byte = let z : (121 == 121) ≡ false = subst (λ (k : ℕ). (k == 121) ≡ false) byte differs in cc
