-- What is written of a message, one part after another.
use Rattle.std.proofs.Common.{◌≡◌, ℕ, ◌+◌, ◌-◌, ◌<◌, ◌≤◌, List, [], ◌∷◌, ◌++◌, length, get_or, drop, map, sym, ap, subst, ◌∙◌, arith, append_assoc}
use Rattle.std.proofs.lemmas.List.{length-append, drop_more, drop_all}
use Rattle.dbus_texts.specs.Types.{BYTE, sig}
use Rattle.dbus_value_model.specs.declared.order.Order.{Order}
use Rattle.dbus_value_model.specs.SizeLimits.{with_padding, with_value, with_values, coded}
use Rattle.dbus_value_model.specs.Values.{ValueTree, ValueTrees, NoValues, MoreValues, NumberValue, VariantValue, type_of, value_trees}
use Rattle.dbus_value_model.specs.Bytes.{num}
use Rattle.dbus_value_model.specs.Spelling.{spelling}
use Rattle.dbus_value_model.proofs.Numbers.{length-num, num_1}
use Rattle.dbus_marshal.proofs.Written.{lengths, length_value, length_values, written_number, written_variant, written_struct, written_none, written_more, no_padding}
use Rattle.dbus_message_model.specs.Messages.{FieldTree, field_struct}
use Rattle.dbus_message_model.specs.PartsViews.{field_tree}
use Rattle.dbus_message_model.specs.declared.header_field.HeaderField.{HeaderField}
use Rattle.dbus_message_model.proofs.FieldLists.{fields_from, no_fields_from, structs}

-- ---- a field

-- a field's bytes up to its value
abbrev pub before_value : Order → FieldTree → List ℕ → List ℕ
before_value order f front = (((with_padding 8 front ++ f.code ∷ []) ++ num order 1 (length (sig (type_of f.value)))) ++ sig (type_of f.value)) ++ 0 ∷ []

pub field_written : (order : Order) (f : FieldTree) (front : List ℕ) → f.code < 256 → with_value order (field_struct f) front ≡ with_value order f.value (before_value order f front)
field_written order f front small =
    written_struct order (MoreValues (NumberValue BYTE f.code) (MoreValues (VariantValue f.value) NoValues)) front
    ∙ written_more order (NumberValue BYTE f.code) (MoreValues (VariantValue f.value) NoValues) (with_padding 8 front)
    ∙ ap (with_values order (MoreValues (VariantValue f.value) NoValues)) (written_number order BYTE f.code (with_padding 8 front) ∙ ap (λ (t : List ℕ). t ++ num order 1 f.code) (no_padding (with_padding 8 front)) ∙ ap (λ (t : List ℕ). with_padding 8 front ++ t) (num_1 order f.code small))
    ∙ written_more order (VariantValue f.value) NoValues (with_padding 8 front ++ f.code ∷ [])
    ∙ written_none order (with_value order (VariantValue f.value) (with_padding 8 front ++ f.code ∷ []))
    ∙ written_variant order f.value (with_padding 8 front ++ f.code ∷ [])

pub field_length : (order : Order) (code : ℕ) (x : ValueTree) (front : List ℕ) → code < 256 →
    length (with_value order (coded code x) front) ≡ length (with_padding 8 front) + 1 + 1 + length (sig (type_of x)) + 1 + length (spelling order (length (with_padding 8 front) + 1 + 1 + length (sig (type_of x)) + 1) x)
field_length order code x front small =
    let f : FieldTree = record { code = code; value = x } in
    let n = length (sig (type_of x)) in
    let before : length (before_value order f front) ≡ length (with_padding 8 front) + 1 + 1 + n + 1 = simp (length-append, length-num) (omega arith) in
    ap length (field_written order f front small) ∙ length_value order x (before_value order f front) ∙ ap (λ (m : ℕ). m + length (spelling order m x)) before

pub ruleset fixed = (length-append, length-num, append_assoc)

pub ruleset field_lengths = (lengths, field_length)

-- ---- lists of fields

module _ {A : Type 0} (order : Order) where
  pub fields_step : (fields : List (HeaderField A)) (i : ℕ) (f : HeaderField A) (front : List ℕ) → i < length fields → f ≡ get_or fields i f
      → with_values order (structs (drop i fields)) front ≡ with_values order (structs (drop (i + 1) fields)) (with_value order (field_struct (field_tree f)) front)
  fields_step fields i f front h is =
      ap (λ (fs : List FieldTree). with_values order (value_trees (map field_struct fs)) front) (fields_from fields i f h is)
      ∙ written_more order (field_struct (field_tree f)) (structs (drop (i + 1) fields)) front

  pub fields_end_step : (fields : List (HeaderField A)) (i : ℕ) (front : List ℕ) → length fields ≤ i → with_values order (structs (drop i fields)) front ≡ front
  fields_end_step fields i front h = ap (λ (fs : List FieldTree). with_values order (value_trees (map field_struct fs)) front) (no_fields_from fields i h) ∙ written_none order front

-- what is written before the rest is no longer than all
pub within_all : (order : Order) (vs : ValueTrees) (x total : List ℕ) → with_values order vs x ≡ total → length x ≤ length total
within_all order vs x total e = omega (arith, ap length e, length_values order vs x)

pub field_before : (order : Order) (f : FieldTree) (front p b s : List ℕ) → p ≡ with_padding 8 front → b ≡ p ++ f.code ∷ [] → s ≡ ((b ++ num order 1 (length (sig (type_of f.value)))) ++ sig (type_of f.value)) ++ 0 ∷ []
    → s ≡ before_value order f front
field_before order f front p b s e d h = h ∙ ap (λ (t : List ℕ). ((t ++ num order 1 (length (sig (type_of f.value)))) ++ sig (type_of f.value)) ++ 0 ∷ []) (d ∙ ap (λ (t : List ℕ). t ++ f.code ∷ []) e)
