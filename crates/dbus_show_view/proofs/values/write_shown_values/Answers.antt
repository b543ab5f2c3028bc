use Rattle.std.proofs.Common.{ℕ, List, ap, subst}
use Rattle.dbus_show.specs.ShownValues.{joined}
use Rattle.dbus_show_view.specs.PlainLaws.{texts_are}
use Rattle.dbus_show_view.proofs.values.write_shown_values.Goals as goal

pub returns : goal.returns
returns g c = record {
  shown = λ vs rest s.
      let w = c.write_values.ensures.written vs rest s in
      subst (λ (text : List ℕ). g.D.Draft.gains c.args.draft.now text c.write_values.new.draft) (ap joined (texts_are vs w.0 w.1)) w.2;
}
