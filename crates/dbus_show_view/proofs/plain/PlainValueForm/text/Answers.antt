use Rattle.std.proofs.Common.{ℕ, ◌∷◌, refl, sym, subst}
use Rattle.dbus_show.specs.ShownValues.{quoted}
use Rattle.dbus_show.proofs.FieldTexts.{then}
use Rattle.dbus_show_view.proofs.plain.PlainValueForm.text.Goals as goal

pub returns : goal.returns
returns g c = record {
  written = λ k e.
      let gained = then g.D.Draft.gains g.met.D.Draft.joins c.write_code.ensures c.write_quoted.ensures in
      (_, refl, subst (λ (code : ℕ). g.D.Draft.gains c.args.draft.now (code ∷ (58 ∷ quoted c.args.text.now)) c.write_quoted.new.draft) (sym e) gained);
}
