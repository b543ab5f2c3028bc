-- What the calls spell.
use Rattle.std.proofs.Common.{◌≡◌, ℕ, ◌+◌, ◌-◌, List, [], ◌∷◌, ◌++◌, length, replicate, refl, sym, ap, ◌∙◌, arith}
use Rattle.dbus_texts.specs.Types.{TypeTree, SIGNATURE, sig}
use Rattle.dbus_types.specs.Alignments.{alignment_of}
use Rattle.dbus_value_model.specs.declared.order.Order.{Order}
use Rattle.dbus_value_model.specs.declared.order.Order.TheVariants.{Little, Big}
use Rattle.dbus_value_model.specs.SizeLimits.{with_padding, with_value, with_values}
use Rattle.dbus_value_model.specs.Bytes.{num, low_first}
use Rattle.dbus_value_model.specs.Values.{ValueTree, ValueTrees, ArrayValue, TextValue, VariantValue, type_of}
use Rattle.dbus_marshal.proofs.Patching.{array_patched}
use Rattle.dbus_marshal.proofs.Written.{written_number, written_path, written_struct, written_entry, written_variant, written_text, no_padding, length_values}
use Rattle.dbus_body.specs.Arrays.{opened, place_of, closed}
use Rattle.dbus_body.specs.BodyLaws.{CallsSpell}

pub zeros : (order : Order) → replicate 4 0 ≡ num order 4 0
unfolding num low_first
zeros Little = refl
zeros Big = refl

variant_spelled : (order : Order) (x : ValueTree) (front : List ℕ) → with_value order x (with_value order (TextValue SIGNATURE (sig (type_of x))) front) ≡ with_value order (VariantValue x) front
variant_spelled order x front =
    let t = sig (type_of x) in
    ap (with_value order x) (written_text order SIGNATURE t front ∙ ap (λ (l : List ℕ). ((l ++ num order 1 (length t)) ++ t) ++ 0 ∷ []) (no_padding front)) ∙ sym (written_variant order x front)

array_spelled : (order : Order) (t : TypeTree) (xs : ValueTrees) (front : List ℕ) →
    closed order (place_of (alignment_of t) front) (with_values order xs (opened (alignment_of t) front)) ≡ with_value order (ArrayValue t xs) front
array_spelled order t xs front =
    let b = with_padding 4 front in
    let y = opened (alignment_of t) front in
    let x = with_values order xs y in
    let counts : length x - length y + length y ≡ length x = omega (arith, length_values order xs y) in
    array_patched order t xs front b (b ++ replicate 4 0) y x (length b) (length x - length y) 0 refl refl (ap (λ (l : List ℕ). b ++ l) (zeros order)) refl refl counts

pub calls_spell : (order : Order) (front : List ℕ) → CallsSpell order front
calls_spell order front =
    record {
      number = λ k n. sym (written_number order k n front);
      path = λ t. sym (written_path order t front);
      struct = λ xs. sym (written_struct order xs front);
      entry = λ k v. sym (written_entry order k v front);
      variant = λ x. variant_spelled order x front;
      array = λ t xs. array_spelled order t xs front;
    }
