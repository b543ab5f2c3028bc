-- No JSON spells two values of one type.
use Rattle.std.proofs.Common.{◌≡◌, ℕ, ◌^◌, ◌<◌, Bool, cond, List, Some, Result, Ok, inl, inr, refl, sym, ap, ◌∙◌, subst}
use Rattle.std.proofs.lemmas.Bool.{cases_Bool}
use Rattle.std.specs.Float.{Float}
use Rattle.hex.specs.Hex.{decode_of}
use Rattle.hex.specs.declared.error.FromHexError.{FromHexError}
use Rattle.json.specs.Json as json
use Rattle.json.specs.Json.{Json, Items, no_items, item, Members}
use Rattle.dbus_texts.specs.Types.{NumberCode, BOOLEAN, INT64, UINT64, DOUBLE, TextCode, TypeTree, sig}
use Rattle.dbus_texts.specs.PlainTypes.{is_byte}
use Rattle.dbus_value_model.specs.declared.order.Order.TheVariants.{Big}
use Rattle.dbus_value_model.specs.Reading.{number_of}
use Rattle.dbus_value_model.specs.Values as values
use Rattle.dbus_value_model.specs.Values.{ValueTree, ValueTrees, NumberValue, TextValue, VariantValue, ArrayValue, StructValue, EntryValue, NoValues, MoreValues, type_of, AllOf}
use Rattle.dbus_value_model.proofs.Numbers.{number_of-num}
use Rattle.dbus_json.specs.declared.integers.Integers.{Integers}
use Rattle.dbus_json_reader.specs.JsonNumbers.{SpellsWide, SpellsDouble, SpellsNumber}
use Rattle.dbus_json_reader.specs.JsonValues.{IsTyped, IsRead, Spells, AllSpell}
use Rattle.dbus_json_reader.proofs.Shapes.{typed_same, one_type, strings_same, arrays_same, objects_same, pairs_same}
use Rattle.dbus_json_reader.proofs.NumberTexts.{coded_same, bits_same}
use Rattle.dbus_json_reader.proofs.SoundValues.{Sound, AreSound, sound, Alike, alike_all, alike_types, bytes_of, bytes_same, element, parts_of, key_of, held_by}

pub numbers_same : (s t : List ℕ) (j : Json) → j ≡ json.number s → j ≡ json.number t → s ≡ t
numbers_same s t j a b = let e : json.number s ≡ json.number t = sym a ∙ b in cc

not_both : (s t : List ℕ) → json.number s ≡ json.string t → ⊥
not_both s t e = cc

wide_same : (integers : Integers) (m n : ℕ) (s t : List ℕ) (j : Json) → SpellsWide integers m s j → SpellsWide integers n t j → s ≡ t
wide_same integers m n s t j (inl a) (inl b) = numbers_same s t j a.1 b.1
wide_same integers m n s t j (inr a) (inr b) = strings_same s t (sym a ∙ b)
wide_same integers m n s t j (inl a) (inr b) = absurd (not_both s t (sym a.1 ∙ b))
wide_same integers m n s t j (inr a) (inl b) = absurd (not_both t s (sym b.1 ∙ a))

pub somes_same : (x y : Float) → Some x ≡ Some y → x ≡ y
somes_same x y e = cc

oks_same : (s t : List ℕ) → ◌≡◌ {A = Result (List ℕ) FromHexError} (Ok s) (Ok t) → s ≡ t
oks_same s t e = cc

double_same : (m n : ℕ) → m < 256 ^ 8 → n < 256 ^ 8 → (j : Json) → SpellsDouble m j → SpellsDouble n j → m ≡ n
double_same m n h k (json.number s) a b = bits_same m n h k a.1 b.1 (somes_same _ _ (sym a.0 ∙ b.0))
double_same m n h k (json.string s) a b =
    sym (number_of-num Big 8 m h) ∙ ap (number_of Big) (oks_same _ _ (sym a ∙ b)) ∙ number_of-num Big 8 n k
double_same m n h k j a b = absurd a

booleans_same : (a b : Bool) → json.boolean a ≡ json.boolean b → a ≡ b
booleans_same a b e = cc

spelled_same : (integers : Integers) (k : NumberCode) (m n : ℕ) → values.IsNumber k m → values.IsNumber k n → (j : Json) → SpellsNumber integers k m j → SpellsNumber integers k n j → m ≡ n
spelled_same integers BOOLEAN m n h l j a b = a.2 ∙ ap (λ (c : Bool). cond c 1 0) (booleans_same _ _ (sym a.1 ∙ b.1)) ∙ sym b.2
spelled_same integers INT64 m n h l j a b = coded_same INT64 (λ d. absurd (cc)) m n h l (wide_same integers _ _ _ _ j a b)
spelled_same integers UINT64 m n h l j a b = coded_same UINT64 (λ d. absurd (cc)) m n h l (wide_same integers _ _ _ _ j a b)
spelled_same integers DOUBLE m n h l j a b = double_same m n h l j a b
spelled_same integers c m n h l j a b = coded_same c (λ d. absurd (cc)) m n h l (numbers_same _ _ j a b)

mutual
  same_value : (integers : Integers) (v w : ValueTree) (j : Json) → Sound v → Sound w → type_of v ≡ type_of w → Spells integers v j → Spells integers w j → v ≡ w
  same_value integers (NumberValue k m) (NumberValue i n) j h l e a b =
      let same : i ≡ k = cc in
      let number = spelled_same integers k m n h (subst (λ (c : NumberCode). values.IsNumber c n) same l) j a (subst (λ (c : NumberCode). SpellsNumber integers c n j) same b) in
      ap (NumberValue k) number ∙ ap (λ (c : NumberCode). NumberValue c n) (sym same)
  same_value integers (TextValue k x) (TextValue i y) j h l e a b =
      let same : k ≡ i = cc in
      ap (TextValue k) (strings_same x y (sym a ∙ b)) ∙ ap (λ (c : TextCode). TextValue c y) same
  same_value integers (VariantValue x) (VariantValue y) j h l e a b =
      let ms = objects_same a.0 b.0 (sym a.2 ∙ b.2) in
      let parts = typed_same _ _ a.1 b.1 b.0 (subst (λ (m : Members). IsTyped (sig (type_of x)) a.1 m) ms a.3) b.3 in
      ap VariantValue (same_value integers x y a.1 h l (one_type _ _ parts.0) a.4 (subst (λ (i : Json). Spells integers y i) (sym parts.1) b.4))
  same_value integers (ArrayValue t xs) (ArrayValue u ys) j h l e a b =
      let same : u ≡ t = sym (ap element e) in
      let all : AllOf t ys = subst (λ (c : TypeTree). AllOf c ys) same l.0 in
      let spelled : Spells integers (ArrayValue t ys) j = subst (λ (c : TypeTree). Spells integers (ArrayValue c ys) j) same b in
      let parts : xs ≡ ys = elim (cases_Bool (is_byte t)) [
        | inl byte ↦ (
            let first = a.0 byte in
            let second = spelled.0 byte in
            let text = strings_same first.0 second.0 (sym first.1 ∙ second.1) in
            bytes_same xs ys (bytes_of t xs byte h.0) (bytes_of t ys byte all) h.1 l.1 (oks_same _ _ (sym first.2 ∙ ap decode_of text ∙ second.2))
            )
        | inr other ↦ (
            let first = a.1 other in
            let second = spelled.1 other in
            let items = arrays_same first.0 second.0 (sym first.1 ∙ second.1) in
            same_values integers xs ys second.0 h.1 l.1 (alike_all t xs ys h.0 all) (subst (λ (js : Items). AllSpell integers xs js) items first.2) second.2
            )
      ] in
      ap (ArrayValue t) parts ∙ ap (λ (c : TypeTree). ArrayValue c ys) (sym same)
  same_value integers (StructValue xs) (StructValue ys) j h l e a b =
      let items = arrays_same a.0 b.0 (sym a.1 ∙ b.1) in
      ap StructValue (same_values integers xs ys b.0 h l (alike_types xs ys (ap parts_of e)) (subst (λ (js : Items). AllSpell integers xs js) items a.2) b.2)
  same_value integers (EntryValue k v) (EntryValue i w) j h l e a b =
      let parts = pairs_same a.0 a.1 b.0 b.1 (sym a.4 ∙ b.4) in
      let key = same_value integers k i b.0 h.0 l.0 (ap key_of e) (subst (λ (c : Json). Spells integers k c) parts.0 a.2) b.2 in
      let held = same_value integers v w b.1 h.1 l.1 (ap held_by e) (subst (λ (c : Json). Spells integers v c) parts.1 a.3) b.3 in
      ap (λ (c : ValueTree). EntryValue c v) key ∙ ap (EntryValue i) held
  same_value integers v w j h l e a b = absurd (cc)

  pub same_values : (integers : Integers) (xs ys : ValueTrees) (js : Items) → AreSound xs → AreSound ys → Alike xs ys → AllSpell integers xs js → AllSpell integers ys js → xs ≡ ys
  same_values integers NoValues NoValues js h l e a b = refl
  same_values integers (MoreValues x xs) (MoreValues y ys) (item j js) h l e a b =
      let one = same_value integers x y j h.0 l.0 e.0 a.0 b.0 in
      ap (λ (c : ValueTree). MoreValues c xs) one ∙ ap (MoreValues y) (same_values integers xs ys js h.1 l.1 e.1 a.1 b.1)
  same_values integers NoValues (MoreValues y ys) no_items h l e a b = absurd b
  same_values integers NoValues (MoreValues y ys) (item j js) h l e a b = absurd a
  same_values integers (MoreValues x xs) NoValues no_items h l e a b = absurd a
  same_values integers (MoreValues x xs) NoValues (item j js) h l e a b = absurd b
  same_values integers (MoreValues x xs) (MoreValues y ys) no_items h l e a b = absurd a

pub one_value : (integers : Integers) (depth other : ℕ) (t : TypeTree) (x y : ValueTree) (j : Json) → IsRead integers depth t x j → IsRead integers other t y j → x ≡ y
one_value integers depth other t x y j h g = same_value integers x y j (sound depth x h.formed) (sound other y g.formed) (h.typed ∙ sym g.typed) h.spelled g.spelled
