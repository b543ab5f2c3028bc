use Rattle.std.proofs.Common.{◌≡◌, ℕ, List, ◌++◌, codes, sym, ap, subst, ◌∙◌, append-nil}
use Rattle.dbus_texts.specs.Types.{sig}
use Rattle.dbus_value_model.specs.Values.{ValueTree, VariantValue, type_of}
use Rattle.dbus_walk.specs.Containers.{IsOf}
use Rattle.dbus_walk.specs.declared.container.Container.{Container}
use Rattle.dbus_walk.specs.declared.container.Container.TheVariants as kind
use Rattle.dbus_show.proofs.FieldTexts.{then}
use Rattle.dbus_value_text.specs.Forms.{told_types}
use Rattle.dbus_json.specs.Form.{open_text}
use Rattle.dbus_json.proofs.json.JsonValueForm.open.Goals as goal

-- the types of a variant's parts are its one type
variant_text : (v : ValueTree) → IsOf kind.Variant v → (types : List ℕ) → told_types v ≡ types → codes "{\"type\":\"" ++ (types ++ codes "\",\"value\":") ≡ open_text v
variant_text (VariantValue x) is types told = ap (λ (t : List ℕ). codes "{\"type\":\"" ++ (t ++ codes "\",\"value\":")) (sym told ∙ append-nil (sig (type_of x)))
variant_text v is types told = absurd is

pub returns-in-Variant : goal.returns-in-Variant
returns-in-Variant g c = record {
  written = λ v is told.
      let text = variant_text v (subst (λ (what : Container). IsOf what v) c.in-Variant.is is) c.args.types.now told in
      let gained = then g.D.Draft.gains g.met.D.Draft.joins c.push_str.ensures (then g.D.Draft.gains g.met.D.Draft.joins c.write_types.ensures c.push_str-in-Variant.ensures) in
      subst (λ (s : List ℕ). g.D.Draft.gains c.args.draft.now s c.push_str-in-Variant.new.self) text gained;
}
