use Rattle.std.proofs.Common.{◌≡◌, ◌+◌, ◌-◌, ◌≤◌, length, drop}
use Rattle.dbus_types.proofs.TypeEnds.{type_length}
use Rattle.dbus_types.proofs.signature_codes.type_end.Given as goal

abbrev pub invariant-loop-at : goal.invariant-loop-at
invariant-loop-at l = record {
  same : l.pos + type_length 0 (drop l.pos l.types) ≡ l.at + type_length l.deep (drop l.at l.types);
  within : l.at ≤ length l.types;
  begun : l.pos ≤ l.at;
  few : l.deep ≤ l.at - l.pos;
}

abbrev pub decreases-loop-at : goal.decreases-loop-at
decreases-loop-at l = length l.types - l.at
