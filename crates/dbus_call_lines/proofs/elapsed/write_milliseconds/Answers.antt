use Rattle.std.proofs.Common.{ℕ, List, subst}
use Rattle.dbus_show.proofs.FieldTexts.{then}
use Rattle.dbus_call_lines.proofs.elapsed.write_milliseconds.Goals as goal

pub returns : goal.returns
returns g c =
    let gains = g.D.Draft.gains in
    let joins = g.met.D.Draft.joins in
    let sign = subst (λ (t : List ℕ). gains c.args.draft.now t c.push_str.new.self) c.sign_of.ensures c.push_str.ensures in
    then gains joins sign (then gains joins c.write_integer.ensures (then gains joins c.push_str-2.ensures c.write_three_digits.ensures))
