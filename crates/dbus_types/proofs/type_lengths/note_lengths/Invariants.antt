use Rattle.std.proofs.Common.{◌≤◌, length}
use Rattle.dbus_types.specs.SignatureCodes.{AreNoted}
use Rattle.dbus_types.proofs.type_lengths.note_lengths.Given as goal

abbrev pub invariant-loop-at : goal.invariant-loop-at
invariant-loop-at l = record {
  within : l.at ≤ length l.types;
  noted : AreNoted l.at l.types l.lengths;
}

abbrev pub decreases-loop-at : goal.decreases-loop-at
decreases-loop-at l = l.at
