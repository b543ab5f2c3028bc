use Rattle.std.proofs.Common.{◌-◌, ◌≤◌, ◌<◌, ℕ, IsSome}
use Rattle.std.specs.BTreeMap.{get}
use Rattle.std.specs.Ordering.{nat_cmp}
use Rattle.dbus_pending.proofs.pending.first_free.Given as goal

abbrev pub invariant-loop-serial : goal.invariant-loop-serial
invariant-loop-serial g l = record {
  above : l.behind ≤ l.serial;
  first : (s : ℕ) → l.behind < s → s ≤ l.serial → IsSome (get nat_cmp l.calls s);
}

abbrev pub decreases-loop-serial : goal.decreases-loop-serial
decreases-loop-serial g l = 4294967295 - l.serial
