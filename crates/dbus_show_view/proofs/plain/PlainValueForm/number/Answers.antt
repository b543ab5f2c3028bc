use Rattle.std.proofs.Common.{ℕ, ◌∷◌, take, drop, refl, sym, subst}
use Rattle.dbus_types.specs.Alignments.{width}
use Rattle.dbus_value_model.specs.Reading.{number_of}
use Rattle.dbus_show.specs.ShownValues.{number_text}
use Rattle.dbus_show.proofs.FieldTexts.{then}
use Rattle.dbus_show_view.proofs.plain.PlainValueForm.number.Goals as goal

pub returns : goal.returns
returns g c = record {
  written = λ k e.
      let text = number_text k (number_of c.args.source.now.order (take (width k) (drop c.args.at c.args.source.now.bytes.now))) in
      let gained = then g.D.Draft.gains g.met.D.Draft.joins c.write_code.ensures (c.write_number_at.ensures k e) in
      (_, refl, subst (λ (code : ℕ). g.D.Draft.gains c.args.draft.now (code ∷ (58 ∷ text)) c.write_number_at.new.draft) (sym e) gained);
}
