use Rattle.std.proofs.Common.{List, ℕ, Option, sym, subst}
use Rattle.dbus_show.proofs.FieldTexts.{then}
use Rattle.dbus_call_lines.specs.CallLines.{behind_commas, took_members}
use Rattle.dbus_call_lines.specs.declared.elapsed.Elapsed.{Elapsed}
use Rattle.dbus_call_lines.proofs.LineLaws.{took_member}
use Rattle.dbus_call_lines.proofs.ending.write_milliseconds_member.Goals as goal

pub returns-in-Some : goal.returns-in-Some
returns-in-Some g c = subst (λ (o : Option Elapsed). g.D.Draft.gains c.args.draft.now (behind_commas (took_members o)) c.write_exact.new.draft) (sym c.in-Some.is)
    (subst (λ (t : List ℕ). g.D.Draft.gains c.args.draft.now t c.write_exact.new.draft) (took_member c.in-Some.took)
    (then g.D.Draft.gains g.met.D.Draft.joins c.push_str.ensures c.write_exact.ensures))
