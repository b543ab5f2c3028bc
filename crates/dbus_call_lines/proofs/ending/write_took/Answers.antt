use Rattle.std.proofs.Common.{Option, sym, subst}
use Rattle.dbus_show.proofs.FieldTexts.{then}
use Rattle.dbus_call_lines.specs.CallLines.{took_text}
use Rattle.dbus_call_lines.specs.declared.elapsed.Elapsed.{Elapsed}
use Rattle.dbus_call_lines.proofs.ending.write_took.Goals as goal

pub returns-in-Some : goal.returns-in-Some
returns-in-Some g c = subst (λ (o : Option Elapsed). g.D.Draft.gains c.args.draft.now (took_text o) c.push_str-in-Some.new.self) (sym c.in-Some.is)
    (then g.D.Draft.gains g.met.D.Draft.joins c.push_str.ensures (then g.D.Draft.gains g.met.D.Draft.joins c.write_milliseconds.ensures c.push_str-in-Some.ensures))
