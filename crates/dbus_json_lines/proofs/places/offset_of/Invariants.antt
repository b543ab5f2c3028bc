use Rattle.std.proofs.Common.{◌≡◌, ◌≤◌, ◌-◌, drop, get_or, length}
use Rattle.dbus_json_lines.specs.Places.{mode_of, starts_from, start_of}
use Rattle.dbus_json_lines.proofs.places.offset_of.Given as goal

abbrev pub invariant-loop-at : goal.invariant-loop-at
invariant-loop-at l = record {
  within : l.at ≤ length l.text;
  is_end : l.end ≡ length l.text;
  same : get_or (starts_from (mode_of l.scan) l.at (drop l.at l.text)) l.left (length l.text) ≡ start_of l.text l.fn.token;
}

abbrev pub decreases-loop-at : goal.decreases-loop-at
decreases-loop-at l = length l.text - l.at
