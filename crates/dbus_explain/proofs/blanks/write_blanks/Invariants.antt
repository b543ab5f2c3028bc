use Rattle.std.proofs.Common.{replicate}
use Rattle.dbus_explain.proofs.blanks.write_blanks.Given as goal

abbrev pub invariant-loop : goal.invariant-loop
invariant-loop g l = g.D.Draft.gains l.initial.draft (replicate l.counter 32) l.draft
