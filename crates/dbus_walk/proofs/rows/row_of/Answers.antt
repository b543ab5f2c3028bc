use Rattle.std.proofs.Common.{sym, ◌∙◌, arith}
use Rattle.dbus_walk.proofs.Together.{no_row, row_more}
use Rattle.dbus_walk.proofs.rows.row_of.Goals as goal

pub loop-n-init : goal.loop-n-init
loop-n-init c = no_row

pub loop-n-preserved : goal.loop-n-preserved
loop-n-preserved c = row_more c.loop-n.invariant c.if-types-n-eq40.true (sym c.from.ensures ∙ c.if-from-types.true) (omega (arith, c.loop-n-test.true))
