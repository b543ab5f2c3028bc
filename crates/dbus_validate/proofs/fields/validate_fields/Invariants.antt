use Rattle.std.proofs.Common.{◌-◌, ◌≤◌}
use Rattle.dbus_validate.proofs.FieldTurns.{Left}
use Rattle.dbus_validate.proofs.fields.validate_fields.Given as goal

abbrev pub invariant-loop-turn : goal.invariant-loop-turn
invariant-loop-turn l = record {
  at_most : l.place ≤ l.end;
  left : Left l.limits l.order l.bytes l.at l.n (l.n - l._turn) l.place l.seen;
}
