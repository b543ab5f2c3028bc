use Rattle.std.proofs.Common.{ℕ, List, ◌++◌, codes, refl, sym, subst}
use Rattle.hex.specs.Hex.{encode_lower}
use Rattle.dbus_show.proofs.FieldTexts.{then}
use Rattle.dbus_show_view.proofs.plain.PlainValueForm.bytes.Goals as goal

pub returns : goal.returns
returns g c = record {
  written = λ xs e.
      let gained = then g.D.Draft.gains g.met.D.Draft.joins c.push_str.ensures c.write_hex.ensures in
      (_, refl, subst (λ (bytes : List ℕ). g.D.Draft.gains c.args.draft.now (codes "ay:" ++ encode_lower bytes) c.write_hex.new.draft) (sym e) gained);
}
