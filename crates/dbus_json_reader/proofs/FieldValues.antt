-- The values of known header fields.
use Rattle.std.proofs.Common.{◌≡◌, ℕ, ◌^◌, ◌<◌, ◌⊎◌, inl, inr, Bool, true, cond, List, String, string_bytes, length, refl, sym, ap, ◌∙◌, subst, codes, decimal, rules, arith}
use Rattle.std.proofs.lemmas.Bool.{true≢false}
use Rattle.std.proofs.lemmas.Fmt.{decimal_injective}
use Rattle.json.specs.Json as json
use Rattle.json.specs.Json.{Json}
use Rattle.dbus_texts.specs.Kinds.{IsKind}
use Rattle.dbus_texts.specs.Types.{UINT32, STRING, TextCode, NumberType, TextType}
use Rattle.dbus_texts.specs.declared.text_kind.TextKind.{TextKind}
use Rattle.dbus_types.specs.Alignments.{length_width}
use Rattle.dbus_value_model.specs.ComputedTexts.{IsName}
use Rattle.dbus_value_model.specs.Values.{ValueTree, TextValue, IsWellFormed}
use Rattle.dbus_value_model.specs.ValueViews.{value_tree}
use Rattle.dbus_value_model.specs.WantedTexts.{kind_of, IsWanted, Of}
use Rattle.dbus_value_model.specs.declared.value.Value.{Value, Str, the_lemmas}
use Rattle.dbus_message_model.specs.KnownFields.{want_of}
use Rattle.dbus_message_model.specs.Messages.{Suits, Want, OfType, Name, is_particular}
use Rattle.dbus_message_model.specs.declared.field_table.Wanted.{Wanted}
use Rattle.dbus_message_model.specs.declared.field_table.Wanted.TheVariants as wanted
use Rattle.dbus_message_model.proofs.KnownValues.{name_is_text}
use Rattle.dbus_json.specs.declared.integers.Integers.{Integers}
use Rattle.dbus_json_reader.specs.JsonParts.{IsFieldValue}
use Rattle.dbus_json_reader.specs.JsonRules.{integer_reason, serial_reason, unsigned_reason}
use Rattle.dbus_json_reader.specs.JsonValues.{Spells}
use Rattle.dbus_json_reader.specs.declared.reasons.JsonReason.TheVariants.{Range, ZeroSerial}
use Rattle.dbus_json_reader.proofs.Decimals.{zero_text}
use Rattle.dbus_json_reader.proofs.MemberNames.{other_bytes, same_bytes}
use Rattle.dbus_json_reader.proofs.Shapes.{number_none, text_none}

pub string_tree : {A : Type 0} (s : String A) → value_tree {A = A} (Str s) ≡ TextValue STRING (string_bytes s)
string_tree s = search (rules, the_lemmas)

-- what is wanted of a known field and is a number
pub number_wanted : (w : Wanted) → (w ≡ wanted.Number) ⊎ (w ≡ wanted.Anything) → is_particular (want_of w) ≡ true → want_of w ≡ OfType (NumberType UINT32)
number_wanted w (inl is) known = ap want_of is
number_wanted w (inr is) known = absurd (true≢false (sym known ∙ ap (λ (u : Wanted). is_particular (want_of u)) is))

module _ (integers : Integers) (depth : ℕ) (w : Want) (v : ValueTree) (j : Json) where
  pub name_held : (kind : TextKind) (t : List ℕ) → w ≡ Name (Of kind) → IsName (Of kind) → v ≡ TextValue STRING t → IsKind kind t → length t < 256 ^ 4 → j ≡ json.string t → IsFieldValue integers depth w v j
  name_held kind t is name value of short spelled =
      subst (λ (u : ValueTree). IsFieldValue integers depth w u j) (sym value) (record {
        suits = subst (λ (u : Want). Suits u (TextValue STRING t)) (sym is) (t, refl, of);
        spelled = spelled;
        formed = (name_is_text (Of kind) t name of, short);
      })

  module _ (h : IsFieldValue integers depth w v j) where
    pub no_text : (k : TextCode) → w ≡ OfType (TextType k) → ((t : List ℕ) → IsWanted (kind_of k) t → length t < 256 ^ length_width k → j ≡ json.string t → ⊥) → ⊥
    no_text k is none = text_none integers (TextType k) j k refl none depth v (record { spelled = h.spelled; typed = subst (λ (u : Want). Suits u v) is h.suits; formed = h.formed })

    pub no_name : (kind : TextKind) → w ≡ Name (Of kind) → ((t : List ℕ) → IsKind kind t → length t < 256 ^ 4 → j ≡ json.string t → ⊥) → ⊥
    no_name kind is none =
        let s = subst (λ (u : Want). Suits u v) is h.suits in
        let formed = subst (IsWellFormed depth) s.1 h.formed in
        none s.0 s.2 formed.1 (subst (λ (u : ValueTree). Spells integers u j) s.1 h.spelled)

    pub no_number : w ≡ OfType (NumberType UINT32) → ((n : ℕ) → n < 256 ^ 4 → j ≡ json.number (decimal n) → ⊥) → ⊥
    no_number is none = number_none integers (NumberType UINT32) j UINT32 refl none depth v (record { spelled = h.spelled; typed = subst (λ (u : Want). Suits u v) is h.suits; formed = h.formed })

-- ---- serials

-- 0 is none
pub zero_refused : (j : Json) (m : ℕ) → j ≡ json.number (decimal m) → m ≡ 0 → (n : ℕ) → 0 < n → n < 2 ^ 32 → j ≡ json.number (decimal n) → ⊥
zero_refused j m is zero n more few e =
    let numbers : json.number (decimal m) ≡ json.number (decimal n) = sym is ∙ e in
    let same : m ≡ n = decimal_injective m n (omega (arith, zero)) (omega (arith, few)) (cc) in
    omega (arith, same, zero, more)

pub zero_shown : (j : Json) (m : ℕ) → j ≡ json.number (decimal m) → m ≡ 0 → serial_reason j ≡ ZeroSerial
zero_shown j m is zero =
    ap serial_reason (is ∙ ap (λ (n : ℕ). json.number (decimal n)) zero ∙ ap json.number zero_text)
    ∙ ap (λ (b : Bool). cond b ZeroSerial (integer_reason Range (codes "0"))) (same_bytes (codes "0") (codes "0") refl)

-- why a value that is not 0 is no serial
pub not_zero : (j : Json) → (j ≡ json.number (decimal 0) → ⊥) → unsigned_reason Range j ≡ serial_reason j
not_zero (json.number text) none =
    sym (ap (λ b. cond b ZeroSerial (integer_reason Range text)) (other_bytes text (codes "0") (λ e. none (ap json.number (e ∙ sym zero_text)))))
not_zero json.null none = refl
not_zero (json.boolean b) none = refl
not_zero (json.string t) none = refl
not_zero (json.array js) none = refl
not_zero (json.object ms) none = refl
