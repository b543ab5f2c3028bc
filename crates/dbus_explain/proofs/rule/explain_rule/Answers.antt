use Rattle.std.proofs.Common.{◌++◌, codes}
use Rattle.dbus_show.specs.Escapes.{visible}
use Rattle.dbus_show.specs.ShownValues.{quoted}
use Rattle.dbus_show.proofs.FieldTexts.{then}
use Rattle.dbus_explain.proofs.ThreeLines.{rule_lines}
use Rattle.dbus_explain.proofs.rule.explain_rule.Goals as goal

pub returns : goal.returns
returns g c =
    let allowed = c.allowed_at.result.now in
    let text = c.args.text.now in
    let gains = g.D.Draft.gains in
    let joins = g.met.D.Draft.joins in
    let mark = c.write_mark.ensures in (
      codes "  " ++ (visible (quoted text) ++ (codes "\n" ++ (mark.0 ++ (codes "\n  " ++ (allowed ++ codes "\n"))))),
      record { mark = mark.0; marked_at = mark.1; allowed = allowed; lines = rule_lines text c.args.at mark.0 allowed c.write_rule.ensures.is_text mark.1 c.allowed_at.ensures },
      then gains joins c.push_str.ensures (then gains joins c.write_rule.ensures.shown (then gains joins c.push_str-2.ensures (then gains joins mark.2 (then gains joins c.push_str-3.ensures (then gains joins c.push_str-4.ensures c.push_str-5.ensures))))),
    )
