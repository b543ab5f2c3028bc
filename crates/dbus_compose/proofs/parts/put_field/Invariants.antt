use Rattle.std.proofs.Common.{◌≡◌}
use Rattle.dbus_compose.proofs.FieldPlaces.{IsFrom}
use Rattle.dbus_compose.proofs.parts.put_field.Given as goal

abbrev pub invariant-loop-i : goal.invariant-loop-i
invariant-loop-i g l = record { from : IsFrom l.fields.items l.field l.i; same : l.fields.items ≡ l.fn.fields.items }
