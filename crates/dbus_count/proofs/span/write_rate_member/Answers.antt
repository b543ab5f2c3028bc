use Rattle.std.proofs.Common.{ℕ, Option, subst, sym}
use Rattle.dbus_show.proofs.FieldTexts.{then}
use Rattle.dbus_count.specs.Spans.{rate_member}
use Rattle.dbus_count.proofs.span.write_rate_member.Goals as goal

pub returns-in-Some : goal.returns-in-Some
returns-in-Some g c =
    let parts = then g.D.Draft.gains g.met.D.Draft.joins c.push_str.ensures c.write_thousandths.ensures in
    subst (λ (rate : Option ℕ). g.D.Draft.gains c.args.draft.now (rate_member rate) c.write_thousandths.new.draft) (sym c.in-Some.is) parts
