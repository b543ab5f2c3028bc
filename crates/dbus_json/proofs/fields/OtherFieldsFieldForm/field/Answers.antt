use Rattle.std.proofs.Common.{ℕ, List, suc, nat_lt, refl, subst, not, eqb}
use Rattle.dbus_show.proofs.FieldTexts.{then}
use Rattle.dbus_value_text.proofs.Read.{all_ascii}
use Rattle.dbus_json.specs.JsonIntegers.{integers_of}
use Rattle.dbus_json.specs.JsonMessages.{IsOther}
use Rattle.dbus_json.proofs.FieldTexts.{other, other_text}
use Rattle.dbus_json.proofs.fields.OtherFieldsFieldForm.field.Goals as goal

pub write_types-requires : goal.write_types-requires
write_types-requires g c = all_ascii c.requires.stands.2

pub returns : goal.returns
returns g c = record {
  written = λ v rest s.
      let w = c.write_value-after.ensures.written v rest s in
      let form = c.args.self.now in
      let before_known = nat_lt (suc c.args.place) form.known_end in
      let is : IsOther (integers_of (not (eqb g.row.SAFE 0))) before_known c.args.place c.args.code v (other before_known c.args.place c.args.code v w.0.0) = record { value = w.0.0; json = w.0.1; is = refl } in
      let gained = then g.D.Draft.gains g.met.D.Draft.joins c.push_str.ensures (then g.D.Draft.gains g.met.D.Draft.joins c.write_integer.ensures (then g.D.Draft.gains g.met.D.Draft.joins c.push_str-2.ensures (then g.D.Draft.gains g.met.D.Draft.joins c.write_types.ensures (then g.D.Draft.gains g.met.D.Draft.joins c.push_str-3.ensures (then g.D.Draft.gains g.met.D.Draft.joins w.0.2 c.write_place.ensures))))) in
      ((_, is, subst (λ (t : List ℕ). g.D.Draft.gains c.args.draft.now t c.write_place.new.draft) (other_text before_known c.args.place c.args.code v w.0.0 c.args.spot.now.types.now s.text) gained), w.1);
}
