use Rattle.std.proofs.Common.{map}
use Rattle.dbus_show.proofs.FieldTexts.{one_more}
use Rattle.dbus_call_members.specs.Tables.{row_of, row_text, rows_text}
use Rattle.dbus_call_members.proofs.RowLaws.{rows_push}
use Rattle.dbus_call_members.proofs.table.write_rows.Goals as goal

pub loop-row-preserved : goal.loop-row-preserved
loop-row-preserved g c =
    let form = c.args.form in
    one_more g.D.Draft.gains g.met.D.Draft.joins (λ ps. rows_text form (map row_of ps)) (λ p. row_text form (row_of p)) (rows_push form) c.args.rows.now c.loop-row.row-index c.row-item.result c.loop-row-test.true c.row-item.is c.loop-row.invariant c.write_row.ensures
