use Rattle.std.proofs.Common.{map, take}
use Rattle.dbus_call_members.specs.Tables.{row_of, rows_text}
use Rattle.dbus_call_members.proofs.table.write_rows.Given as goal

abbrev pub invariant-loop-row : goal.invariant-loop-row
invariant-loop-row g l = g.D.Draft.gains l.initial.draft (rows_text l.fn.form (map row_of (take l.row-index l.rows))) l.draft
