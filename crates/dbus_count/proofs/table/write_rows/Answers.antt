use Rattle.std.proofs.Common.{map}
use Rattle.dbus_count.specs.Tables.{row_of, row_text, rows_text}
use Rattle.dbus_count.proofs.RowLaws.{rows_push}
use Rattle.dbus_show.proofs.FieldTexts.{one_more}
use Rattle.dbus_count.proofs.table.write_rows.Goals as goal

pub loop-row-preserved : goal.loop-row-preserved
loop-row-preserved g c =
    let form = c.args.form in
    let word = c.args.word.now in
    one_more g.D.Draft.gains g.met.D.Draft.joins (λ ps. rows_text form word (map row_of ps)) (λ p. row_text form word (row_of p)) (rows_push form word) c.args.rows.now c.loop-row.row-index c.row-item.result c.loop-row-test.true c.row-item.is c.loop-row.invariant c.write_row.ensures
