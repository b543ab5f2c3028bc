use Rattle.std.proofs.Common.{ℕ, Option, subst, sym}
use Rattle.dbus_show.proofs.FieldTexts.{then}
use Rattle.dbus_count.specs.Spans.{rate_in_words}
use Rattle.dbus_count.proofs.span.write_rate.Goals as goal

pub returns-in-Some : goal.returns-in-Some
returns-in-Some g c =
    let gains = g.D.Draft.gains in
    let joins = g.met.D.Draft.joins in
    let parts = then gains joins c.push_str.ensures (then gains joins c.write_thousandths.ensures c.push_str-in-Some.ensures) in
    subst (λ (rate : Option ℕ). gains c.args.draft.now (rate_in_words rate) c.push_str-in-Some.new.self) (sym c.in-Some.is) parts
