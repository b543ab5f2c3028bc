use Rattle.std.proofs.Common.{◌≡◌, subst, rules}
use Rattle.dbus_value_text.proofs.values.write_value.Goals as goal

pub returns : goal.returns
returns g c = record {
  written = λ v rest s.
      let w = c.in-Ok.ensures.walked v rest s in
      let same = w.0.2.same in
      let back : c.walk_value.new.visitor.draft.now ≡ c.draft-1.given.0 = search rules in
      ((w.0.0, w.0.1, subst (λ (d : g.row.D.Denot). g.D.Draft.gains c.args.draft.now w.0.0 d) back w.0.2.gained), w.1);
}
