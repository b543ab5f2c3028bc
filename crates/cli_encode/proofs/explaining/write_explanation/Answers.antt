use Rattle.dbus_show.proofs.FieldTexts.{then}
use Rattle.cli_encode.proofs.explaining.write_explanation.Goals as goal

pub returns : goal.returns
returns g c =
    let gains = g.D.Draft.gains in
    let joins = g.met.D.Draft.joins in
    then gains joins c.write_part.ensures (then gains joins c.push_str.ensures (then gains joins c.write_rule.ensures c.push_str-2.ensures))
