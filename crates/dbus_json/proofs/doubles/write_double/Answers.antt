use Rattle.std.proofs.Common.{List, ℕ, refl, subst, ◌∙◌}
use Rattle.hex.specs.Hex.{encode_lower}
use Rattle.dbus_value_model.specs.Bytes.{num}
use Rattle.dbus_value_model.specs.declared.order.Order.TheVariants.{Big}
use Rattle.dbus_value_model.proofs.Numbers.{num_64_big}
use Rattle.dbus_show.proofs.FieldTexts.{then}
use Rattle.dbus_json.specs.JsonValues.{plain}
use Rattle.dbus_json.proofs.doubles.write_double.Goals as goal

pub returns-in-None : goal.returns-in-None
returns-in-None g c =
    let bytes = c.to_be_bytes.ensures ∙ num_64_big c.args.bits in
    let digits = subst (λ (b : List ℕ). g.D.Draft.gains c.push_code.new.self (encode_lower b) c.write_hex.new.draft) bytes c.write_hex.ensures in (
      plain (encode_lower (num Big 8 c.args.bits)),
      record { finite = λ e. absurd (c.in-None.ensures e); other = λ e. refl },
      then g.D.Draft.gains g.met.D.Draft.joins c.push_code.ensures (then g.D.Draft.gains g.met.D.Draft.joins digits c.push_code-in-None.ensures),
    )
