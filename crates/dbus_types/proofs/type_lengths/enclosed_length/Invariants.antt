use Rattle.std.proofs.Common.{◌≡◌, ◌<◌, ◌≤◌, ◌-◌, ◌++◌, ℕ, List, length, drop}
use Rattle.dbus_texts.specs.Types.{TypeTree, sig}
use Rattle.dbus_types.proofs.TypeLengths.{Enclosed}
use Rattle.dbus_types.proofs.type_lengths.enclosed_length.Given as goal

abbrev pub invariant-loop-place : goal.invariant-loop-place
invariant-loop-place l = record {
  begun : l.at < l.place;
  within : l.place ≤ length l.types;
  left : (t : TypeTree) (more : List ℕ) → drop l.at l.types ≡ sig t ++ more → Enclosed l.types l.at t more l.place;
}

abbrev pub decreases-loop-place : goal.decreases-loop-place
decreases-loop-place l = length l.types - l.place
