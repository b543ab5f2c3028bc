use Rattle.std.proofs.Common.{◌≡◌, ℕ, ◌+◌, ◌-◌, ◌≤◌, take, drop}
use Rattle.dbus_value_model.specs.Bytes.{gap_to}
use Rattle.dbus_value_model.specs.Reading.{number_of}
use Rattle.dbus_value_validator.proofs.numbers.booleans_end.Given as goal

abbrev pub invariant-loop-place : goal.invariant-loop-place
invariant-loop-place l = record {
  begun : l.fn.at ≤ l.place;
  within : l.place ≤ l.end;
  aligned : gap_to 4 l.place ≡ 0;
  few : (p : ℕ) → l.fn.at ≤ p → gap_to 4 p ≡ 0 → p + 4 ≤ l.place → number_of l.order (take 4 (drop p l.bytes)) ≤ 1;
}

abbrev pub decreases-loop-place : goal.decreases-loop-place
decreases-loop-place l = l.end - l.place
