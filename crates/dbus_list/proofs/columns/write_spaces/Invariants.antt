use Rattle.std.proofs.Common.{◌≤◌, ◌-◌, replicate}
use Rattle.dbus_list.proofs.columns.write_spaces.Given as goal

abbrev pub invariant-loop-left : goal.invariant-loop-left
invariant-loop-left g l = record {
  few : l.left ≤ l.count;
  so_far : g.D.Draft.gains l.initial.draft (replicate (l.count - l.left) 32) l.draft;
}

abbrev pub decreases-loop-left : goal.decreases-loop-left
decreases-loop-left g l = l.left
