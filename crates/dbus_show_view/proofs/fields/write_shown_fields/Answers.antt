use Rattle.std.proofs.Common.{ℕ, List, subst}
use Rattle.dbus_show_view.proofs.FieldParts.{fields_are}
use Rattle.dbus_show_view.proofs.fields.write_shown_fields.Goals as goal

pub returns : goal.returns
returns g c = record {
  shown = λ fs rest s.
      let w = c.write_field_run.ensures.written fs rest s in
      subst (λ (text : List ℕ). g.D.Draft.gains c.args.draft.now text c.write_field_run.new.draft) (fields_are 0 fs w.0 w.1) w.2;
}
