use Rattle.std.proofs.Common.{◌≡◌, ◌+◌, ◌-◌, ◌*◌, ◌≤◌, length, true}
use Rattle.dbus_texts.specs.Types.{TypeTree, TypeTrees, sig, sigs, IsShaped, AreShaped}
use Rattle.dbus_value_model.specs.Reading.{value}
use Rattle.dbus_value_validator.proofs.ValueSteps.{LeadsTo}
use Rattle.dbus_value_validator.proofs.OpenStructs.{Left}
use Rattle.dbus_value_validator.proofs.values.+values.Given as goal

-- a container takes one of the room, or bytes of its type, and a variant's own type has at most 255
-- bytes

abbrev pub decreases-one_value : goal.decreases-one_value
decreases-one_value l = 4 * (256 * l.depth_left + length l.types.now) + 1

abbrev pub decreases-all_values : goal.decreases-all_values
decreases-all_values l = 4 * (256 * l.depth_left + length l.types.now)

abbrev pub decreases-variant : goal.decreases-variant
decreases-variant l = 4 * (256 * l.depth_left)

abbrev pub decreases-own_value : goal.decreases-own_value
decreases-own_value l = 4 * (256 * l.depth_left + length l.types.now) + 3

abbrev pub decreases-noted_value : goal.decreases-noted_value
decreases-noted_value l = 4 * (256 * l.depth_left + length l.types.now) + 2

abbrev pub decreases-array : goal.decreases-array
decreases-array l = 4 * (256 * l.depth_left + length l.types.now) + 3

abbrev pub decreases-noted_elements : goal.decreases-noted_elements
decreases-noted_elements l = 4 * (256 * l.depth_left + length l.types.now) + 3

abbrev pub decreases-elements : goal.decreases-elements
decreases-elements l = 4 * (256 * l.depth_left + length l.types.now) + 2

abbrev pub decreases-entry : goal.decreases-entry
decreases-entry l = 4 * (256 * l.depth_left + length l.types.now) + 1

abbrev pub invariant-all_values-loop-first : goal.invariant-all_values-loop-first
invariant-all_values-loop-first l = record {
  begun : l.fn.at ≤ l.place;
  at_most : l.place ≤ l.end;
  within : l.first ≤ length l.types;
  deep : l.depth ≤ l.depth_left;
  left : (ts : TypeTrees) → sigs ts ≡ l.types → AreShaped ts → Left l.source l.end l.types ts l.fn.at l.depth_left l.place l.first l.depth;
}

abbrev pub decreases-all_values-loop-first : goal.decreases-all_values-loop-first
decreases-all_values-loop-first l = length l.types - l.first

abbrev pub invariant-elements-loop-turn : goal.invariant-elements-loop-turn
invariant-elements-loop-turn l = record {
  at_most : l.place ≤ l.end;
  leads : (t : TypeTree) → sig t ≡ l.types → IsShaped true t → LeadsTo (value l.source.bounds l.source.order l.depth_left l.end t) l.source.bytes.now l.n (l.n - l._turn) l.end l.fn.at l.place;
}
