use Rattle.std.proofs.Common.{map, take}
use Rattle.dbus_count.specs.Tables.{row_of, rows_text}
use Rattle.dbus_count.proofs.table.write_rows.Given as goal

abbrev pub invariant-loop-row : goal.invariant-loop-row
invariant-loop-row g l = g.D.Draft.gains l.initial.draft (rows_text l.fn.form l.fn.word (map row_of (take l.row-index l.rows))) l.draft
