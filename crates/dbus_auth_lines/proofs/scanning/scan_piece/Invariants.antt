use Rattle.std.proofs.Common.{◌≡◌, ◌+◌, drop}
use Rattle.dbus_auth_lines.specs.Cut.{scan_from}
use Rattle.dbus_auth_lines.proofs.scanning.scan_piece.Given as goal

abbrev pub invariant-loop-i : goal.invariant-loop-i
invariant-loop-i l = scan_from (l.fn.at + l.i) l.after_cr (drop l.i l.piece) ≡ scan_from l.fn.at l.fn.after_cr l.piece
