use Rattle.std.proofs.Common.{ℕ, List, ◌++◌, append_assoc, Bool, cond, codes, sym, ap, subst, ◌∙◌}
use Rattle.dbus_show.specs.ShownValues.{value_text}
use Rattle.dbus_show.specs.ShownMessages.{bare, field_name}
use Rattle.dbus_show.proofs.FieldTexts.{then}
use Rattle.dbus_show_view.proofs.fields.NamedFieldForm.field.Goals as goal

pub returns-then-is_known : goal.returns-then-is_known
returns-then-is_known g c = record {
  written = λ v rest s.
      let w = c.write_bare.ensures.shown v rest s in
      let known = sym c.if-is_known.true ∙ c.is_known.ensures in
      let gained = then g.D.Draft.gains g.met.D.Draft.joins c.write_name.ensures w.0 in
      let together = ap (λ (s : List ℕ). codes " " ++ s) (append_assoc (field_name c.args.code) (codes "=") (bare v)) in
      ((_, together ∙ ap (λ (b : Bool). codes " " ++ (field_name c.args.code ++ (codes "=" ++ cond b (bare v) (value_text v)))) known, gained), w.1);
}

pub returns : goal.returns
returns g c = record {
  written = λ v rest s.
      let w = c.write_value.ensures.written v rest s in
      let known = sym c.if-is_known.false ∙ c.is_known.ensures in
      let held = subst (λ (text : List ℕ). g.D.Draft.gains c.write_name.new.draft text c.write_value.new.draft) w.0.1 w.0.2 in
      let gained = then g.D.Draft.gains g.met.D.Draft.joins c.write_name.ensures held in
      let together = ap (λ (s : List ℕ). codes " " ++ s) (append_assoc (field_name c.args.code) (codes "=") (value_text v)) in
      ((_, together ∙ ap (λ (b : Bool). codes " " ++ (field_name c.args.code ++ (codes "=" ++ cond b (bare v) (value_text v)))) known, gained), w.1);
}
