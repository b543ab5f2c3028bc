use Rattle.std.proofs.Common.{ℕ, List, append_assoc, codes, refl, subst, not, eqb}
use Rattle.dbus_show.specs.ShownMessages.{field_name}
use Rattle.dbus_json.specs.JsonIntegers.{integers_of}
use Rattle.dbus_json.specs.JsonMessages.{IsKnown}
use Rattle.dbus_json.specs.JsonValues.{plain, member}
use Rattle.dbus_show.proofs.FieldTexts.{then}
use Rattle.dbus_json.proofs.fields.KnownFieldsFieldForm.field.Goals as goal

pub returns : goal.returns
returns g c = record {
  written = λ v rest s.
      let w = c.write_value.ensures.written v rest s in
      let gained = then g.D.Draft.gains g.met.D.Draft.joins c.write_name.ensures w.0.2 in
      let field : IsKnown (integers_of (not (eqb g.row.SAFE 0))) c.args.code v (member (field_name c.args.code) w.0.0) = record { value = w.0.0; json = w.0.1; is = refl } in
      ((_, field, subst (λ (t : List ℕ). g.D.Draft.gains c.args.draft.now t c.write_value.new.draft) (append_assoc (plain (field_name c.args.code)) (codes ":") w.0.0) gained), w.1);
}
