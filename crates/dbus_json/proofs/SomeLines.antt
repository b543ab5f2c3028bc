-- Each message has a line of JSON.
use Rattle.std.proofs.Common.{◌≡◌, ℕ, Bool, true, false, List, [], ◌∷◌, codes, from_bits, refl, sym, ◌∙◌, true≢false}
use Rattle.std.specs.Float.{binary64, float_is_finite}
use Rattle.hex.specs.Hex.{encode_lower}
use Rattle.dbus_texts.specs.Types.{NumberCode, DOUBLE, sig}
use Rattle.dbus_texts.specs.PlainTypes.{is_byte}
use Rattle.dbus_value_model.specs.declared.order.Order.TheVariants.{Big}
use Rattle.dbus_value_model.specs.Bytes.{num}
use Rattle.dbus_value_model.specs.Values.{ValueTree, ValueTrees, NumberValue, TextValue, VariantValue, ArrayValue, StructValue, EntryValue, NoValues, MoreValues, type_of}
use Rattle.dbus_message_model.specs.Messages.{FieldTree}
use Rattle.dbus_show.specs.ShownMessages.{field_name}
use Rattle.dbus_show.specs.ShownValues.{bytes_in}
use Rattle.dbus_value_text.specs.Forms.{AreFieldTexts}
use Rattle.dbus_json.specs.declared.integers.Integers.{Integers}
use Rattle.dbus_json.specs.JsonValues.{plain, string, array, member, object, IsDouble, IsNumber, IsJson, AreJson}
use Rattle.dbus_json.specs.JsonMessages.{IsKnown, IsOther, known_fields, other_fields, is_before_known, IsSomeLineEach}
use Rattle.dbus_json.proofs.FloatTexts.{some_text}

some_double : (bits : ℕ) (answer : Bool) → float_is_finite (from_bits binary64 bits) ≡ answer → (text : List ℕ) × IsDouble bits text
some_double bits true e =
    let text = some_text binary64 bits e in
    (text.0, record { finite = λ _. (text.1, text.2); other = λ no. absurd (true≢false (sym e ∙ no)) })
some_double bits false e = (plain (encode_lower (num Big 8 bits)), record { finite = λ yes. absurd (true≢false (sym yes ∙ e)); other = λ _. refl })

some_number : (integers : Integers) (k : NumberCode) (n : ℕ) → (text : List ℕ) × IsNumber integers k n text
some_number integers DOUBLE n = some_double n _ refl
some_number integers k n = (_, refl)

some_array : (byte : Bool) (all : List ℕ) (Items : List (List ℕ) → Type 0) → (items : List (List ℕ)) × Items items
    → (text : List ℕ) × (byte ≡ true → text ≡ all) × (byte ≡ false → (items : List (List ℕ)) × Items items × (text ≡ array items))
some_array true all Items some = (all, λ _. refl, λ no. absurd (true≢false no))
some_array false all Items some = (array some.0, λ yes. absurd (true≢false (sym yes)), λ _. (some.0, some.1, refl))

mutual
  some_json : (integers : Integers) (v : ValueTree) → (text : List ℕ) × IsJson integers v text
  some_json integers (NumberValue k n) = some_number integers k n
  some_json integers (TextValue k t) = (string t, refl)
  some_json integers (ArrayValue t xs) =
      let some = some_array (is_byte t) (plain (encode_lower (bytes_in xs))) (AreJson integers xs) (some_jsons integers xs) in
      (some.0, (some.1, some.2))
  some_json integers (StructValue xs) =
      let items = some_jsons integers xs in
      (array items.0, (items.0, items.1, refl))
  some_json integers (EntryValue x y) =
      let key = some_json integers x in
      let value = some_json integers y in
      (array (key.0 ∷ value.0 ∷ []), (key.0, value.0, key.1, value.1, refl))
  some_json integers (VariantValue x) =
      let value = some_json integers x in
      (object (member (codes "type") (plain (sig (type_of x))) ∷ member (codes "value") value.0 ∷ []), (value.0, value.1, refl))

  some_jsons : (integers : Integers) (xs : ValueTrees) → (texts : List (List ℕ)) × AreJson integers xs texts
  some_jsons integers NoValues = ([], tt)
  some_jsons integers (MoreValues x xs) =
      let one = some_json integers x in
      let more = some_jsons integers xs in
      (one.0 ∷ more.0, (one.1, more.1))

some_known : (integers : Integers) (ps : List (ℕ × FieldTree)) → (texts : List (List ℕ)) × AreFieldTexts (λ _ code v text. IsKnown integers code v text) ps texts
some_known integers [] = ([], tt)
some_known integers (p ∷ ps) =
    let value = some_json integers p.1.value in
    let more = some_known integers ps in
    (member (field_name p.1.code) value.0 ∷ more.0, (record { value = value.0; json = value.1; is = refl }, more.1))

some_others : (integers : Integers) (is_before : ℕ → Bool) (ps : List (ℕ × FieldTree)) → (texts : List (List ℕ)) × AreFieldTexts (λ place code v text. IsOther integers (is_before place) place code v text) ps texts
some_others integers is_before [] = ([], tt)
some_others integers is_before (p ∷ ps) =
    let value = some_json integers p.1.value in
    let more = some_others integers is_before ps in
    (_ ∷ more.0, (record { value = value.0; json = value.1; is = refl }, more.1))

pub some_line_each : IsSomeLineEach
some_line_each integers order m place =
    let known = some_known integers (known_fields m.fields) in
    let others = some_others integers (is_before_known m.fields) (other_fields m.fields) in
    let values = some_jsons integers m.body in
    (_, record { known = known.0; knows = known.1; others = others.0; other = others.1; values = values.0; body = values.1; is = refl })
