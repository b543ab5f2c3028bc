use Rattle.std.proofs.Common.{◌≡◌, ◌+◌, ◌-◌, ◌≤◌, length}
use Rattle.dbus_texts.specs.Types.{NumberCode, NumberType}
use Rattle.dbus_types.specs.Alignments.{width}
use Rattle.dbus_value_model.specs.Bytes.{gap_to}
use Rattle.dbus_value_model.specs.declared.order.Order.{Order}
use Rattle.dbus_value_model.specs.Spelling.{spellings}
use Rattle.dbus_value_model.specs.Values.{ValueTrees, AllOf}
use Rattle.dbus_swap.proofs.NumberRuns.{NumbersByteswapped}
use Rattle.dbus_swap.proofs.numbers.byteswap_numbers.Given as goal

abbrev pub invariant-loop-place : goal.invariant-loop-place
invariant-loop-place l = record {
  at_most : l.place ≤ l.end;
  as_long : length l.out ≡ length l.fn.out;
  byteswapped : (order : Order) (k : NumberCode) (xs : ValueTrees) → width k ≡ l.size → AllOf (NumberType k) xs → gap_to l.size l.fn.at ≡ 0 → l.end ≡ l.fn.at + length (spellings order l.fn.at xs)
      → NumbersByteswapped order k l.fn.at l.end xs l.fn.out l.place l.out;
}

abbrev pub decreases-loop-place : goal.decreases-loop-place
decreases-loop-place l = l.end - l.place
