use Rattle.std.proofs.Common.{◌≡◌, ◌⊎◌, inl, inr, refl, sym, ◌∙◌}
use Rattle.dbus_walk.specs.declared.container.Container.{Container}
use Rattle.dbus_walk.specs.declared.container.Container.TheVariants as kind
use Rattle.dbus_value_text.proofs.Rows.{types_ascii}
use Rattle.dbus_value_text.proofs.Read.{told_parts}
use Rattle.dbus_value_text.proofs.visiting.WriterVisitor.open.Goals as goal

of_variant : (what : Container) {A : Type 0} → (what ≡ kind.Array → ⊥) → (what ≡ kind.Variant → A) → (what ≡ kind.Variant) ⊎ (what ≡ kind.Array) → A
of_variant what other single (inl e) = single e
of_variant what other single (inr e) = absurd (other e)

pub open-requires : goal.open-requires
open-requires g c = record {
  ascii = of_variant c.args.kind c.requires.kind (λ e. let single = c.requires.single e in types_ascii single.0.0 c.args.types.now (sym single.0.2));
}

pub returns-clause-takes : goal.returns-clause-takes
returns-clause-takes g c = λ order at v is_of are begins.
    let told = told_parts c.args.kind v is_of c.requires.kind in
    record { listed = told.0; written = record { same = refl; gained = c.open.ensures.written v is_of (told.1 ∙ are) } }
