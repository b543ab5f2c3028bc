use Rattle.std.proofs.Common.{ℕ, Option, sym, subst}
use Rattle.dbus_show.proofs.FieldTexts.{then}
use Rattle.dbus_list.specs.Lines.{time_part}
use Rattle.dbus_list.proofs.line.write_time.Goals as goal

pub returns-in-Some : goal.returns-in-Some
returns-in-Some g c = subst (λ (o : Option ℕ). g.D.Draft.gains c.args.draft.now (time_part o) c.push_code.new.self) (sym c.in-Some.is)
    (then g.D.Draft.gains g.met.D.Draft.joins c.write_clock.ensures c.push_code.ensures)
