use Rattle.std.proofs.Common.{◌≡◌, ℕ, List, ◌++◌, codes, sym, ap, subst}
use Rattle.dbus_value_model.specs.Values.{ValueTree, ArrayValue}
use Rattle.dbus_walk.specs.Containers.{IsOf}
use Rattle.dbus_walk.specs.declared.container.Container.{Container}
use Rattle.dbus_walk.specs.declared.container.Container.TheVariants as kind
use Rattle.dbus_show.proofs.FieldTexts.{then}
use Rattle.dbus_value_text.specs.Forms.{told_types}
use Rattle.dbus_show_view.specs.Plain.{open_text}
use Rattle.dbus_show_view.proofs.plain.PlainValueForm.open.Goals as goal

array_text : (v : ValueTree) → IsOf kind.Array v → (types : List ℕ) → told_types v ≡ types → types ++ codes ":[" ≡ open_text v
array_text (ArrayValue t xs) is types told = ap (λ (s : List ℕ). s ++ codes ":[") (sym told)
array_text v is types told = absurd is

pub returns-in-Array : goal.returns-in-Array
returns-in-Array g c = record {
  written = λ v is told.
      let text = array_text v (subst (λ (what : Container). IsOf what v) c.in-Array.is is) c.args.types.now told in
      subst (λ (s : List ℕ). g.D.Draft.gains c.args.draft.now s c.push_str.new.self) text (then g.D.Draft.gains g.met.D.Draft.joins c.write_types.ensures c.push_str.ensures);
}
