use Rattle.std.proofs.Common.{◌≡◌, ℕ, sym, ap, ◌∙◌}
use Rattle.dbus_value_model.specs.Values.{ValueTree}
use Rattle.dbus_message_model.specs.Messages.{FieldTree}
use Rattle.dbus_decode.proofs.building.build_field.Goals as goal

abbrev field : ℕ → ValueTree → FieldTree
field code value = record { code = code; value = value }

same_field : (f g : FieldTree) → f.code ≡ g.code → f.value ≡ g.value → f ≡ g
same_field f g code value = ap (λ (n : ℕ). field n f.value) code ∙ ap (λ (v : ValueTree). field g.code v) value

pub build_typed-requires : goal.build_typed-requires
build_typed-requires g c =
    let there = c.requires.stands in
    let p = c.field_at-field.ensures there.0 there.1 there.2 in
    record { few = p.few; stands = (there.0.value, there.1, p.value) }

pub returns-clause-built : goal.returns-clause-built
returns-clause-built g c = λ f rest s.
    let p = c.field_at-field.ensures f rest s in
    let one = c.in_ok-value.ensures.built f.value rest p.value in
    (same_field _ f (sym p.code) one.0, one.1 ∙ p.ends)
