use Rattle.std.proofs.Common.{◌≡◌, sym, subst, rules}
use Rattle.dbus_value_model.specs.Values.{ValueTrees}
use Rattle.dbus_value_text.specs.Forms.{AreTexts, joined}
use Rattle.dbus_value_text.proofs.values.write_values.Goals as goal

pub returns : goal.returns
returns g c = record {
  written = λ vs rest s.
      let w = (c.in-Ok.ensures.walked vs rest s).0 in
      let all = w.2 in
      let same = all.2.same in
      let back : c.walk_values.new.visitor.draft.now ≡ c.draft-1.given.0 = search rules in
      (all.0, subst (λ (us : ValueTrees). AreTexts g.F.ValueForm.is_text us all.0) (sym w.1) all.1, subst (λ (d : g.row.D.Denot). g.D.Draft.gains c.args.draft.now (joined g.F.ValueForm.separator_text all.0) d) back all.2.gained);
}
