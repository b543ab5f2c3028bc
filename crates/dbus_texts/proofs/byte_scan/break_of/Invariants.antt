use Rattle.std.proofs.Common.{take}
use Rattle.dbus_texts.specs.Quotients.{IsQuotient}
use Rattle.dbus_texts.proofs.byte_scan.break_of.Given as goal

abbrev pub invariant-loop-i : goal.invariant-loop-i
invariant-loop-i g l = IsQuotient (g.S.ByteScan.rest l.fn.start) (take l.i l.text) (g.S.ByteScan.rest l.scan)
