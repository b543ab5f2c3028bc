use Rattle.std.proofs.Common.{sym, subst}
use Rattle.dbus_show.proofs.EscapedText.{two_units}
use Rattle.dbus_show.proofs.FieldTexts.{then}
use Rattle.dbus_show.proofs.escapes.write_units.Goals as goal

pub returns : goal.returns
returns g c = subst (λ s. g.D.Draft.gains c.args.draft.now s c.write_unit-3.new.draft) (sym (two_units c.args.character c.if-code-lt65536.false)) (then g.D.Draft.gains g.met.D.Draft.joins c.write_unit-2.ensures c.write_unit-3.ensures)
