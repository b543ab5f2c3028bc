use Rattle.std.proofs.Common.{List, ℕ, subst}
use Rattle.dbus_show.proofs.FieldTexts.{then}
use Rattle.dbus_call_lines.proofs.LineLaws.{number_member}
use Rattle.dbus_call_lines.proofs.ending.write_number.Goals as goal

pub returns : goal.returns
returns g c = subst (λ (t : List ℕ). g.D.Draft.gains c.args.draft.now t c.write_integer.new.draft) (number_member c.args.number) (then g.D.Draft.gains g.met.D.Draft.joins c.push_str.ensures c.write_integer.ensures)
