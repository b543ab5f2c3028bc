use Rattle.std.proofs.Common.{◌≡◌, ℕ, ◌+◌}
use Rattle.dbus_resync.specs.Search.{LooksBefore, NoneBefore}
use Rattle.dbus_resync.proofs.search.first_message.Given as goal

abbrev pub invariant-loop-at : goal.invariant-loop-at
invariant-loop-at l = NoneBefore l.limits l.bytes l.at
    × ((total : ℕ) × LooksBefore l.limits l.bytes l.at total × (total + l.left ≡ l.effort))
