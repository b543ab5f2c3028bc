use Rattle.std.proofs.Common.{◌+◌, ◌*◌, ◌-◌, ◌≤◌, ℕ, List, length}
use Rattle.dbus_types.specs.SignatureCodes.{AreLengths}
use Rattle.dbus_value_model.specs.Values.{ValueTree, ValueTrees}
use Rattle.dbus_walk.specs.Standing.{AllStand, AllStandAt, ElementsStand, ElementsStandAt, between}
use Rattle.dbus_walk.proofs.Walks.{Left, Taken}
use Rattle.dbus_walk.proofs.walk.+walk.Given as goal

-- a container takes one of the room, or bytes of its type, and a variant's own type has at most 255
-- bytes

abbrev pub decreases-value : goal.decreases-value
decreases-value g l = 4 * (256 * l.spot.now.depth_left + length l.spot.now.types.now)

abbrev pub decreases-walk_values : goal.decreases-walk_values
decreases-walk_values g l = 4 * (256 * l.spot.now.depth_left + length l.spot.now.types.now) + 2

abbrev pub decreases-variant : goal.decreases-variant
decreases-variant g l = 4 * (256 * l.spot.now.depth_left + length l.spot.now.types.now) - 1

abbrev pub decreases-variant_of : goal.decreases-variant_of
decreases-variant_of g l = 4 * (256 * l.held.now.depth_left + length l.held.now.types.now) + 2

abbrev pub decreases-noted_variant : goal.decreases-noted_variant
decreases-noted_variant g l = 4 * (256 * l.held.now.depth_left + length l.held.now.types.now) + 3

abbrev pub decreases-array : goal.decreases-array
decreases-array g l = 4 * (256 * l.spot.now.depth_left + length l.spot.now.types.now) - 1

abbrev pub decreases-elements : goal.decreases-elements
decreases-elements g l = 4 * (256 * l.spot.now.depth_left + length l.spot.now.types.now) + 1

abbrev pub decreases-entry : goal.decreases-entry
decreases-entry g l = 4 * (256 * l.spot.now.depth_left + length l.spot.now.types.now) - 1

abbrev pub decreases-structure : goal.decreases-structure
decreases-structure g l = 4 * (256 * l.spot.now.depth_left + length l.spot.now.types.now) - 1

abbrev pub decreases-alone : goal.decreases-alone
decreases-alone g l = 4 * (256 * l.spot.now.depth_left + length l.spot.now.types.now) - 2

abbrev pub decreases-together : goal.decreases-together
decreases-together g l = 4 * (256 * l.spot.now.depth_left + length l.spot.now.types.now) - 2

abbrev pub decreases-whole : goal.decreases-whole
decreases-whole g l = 4 * (256 * l.spot.now.depth_left + length l.spot.now.types.now) + 4

abbrev pub decreases-listed : goal.decreases-listed
decreases-listed g l = 4 * (256 * l.spot.now.depth_left + length l.spot.now.types.now) + 3

abbrev pub decreases-nested : goal.decreases-nested
decreases-nested g l = 4 * (256 * (l.spot.now.depth_left - l.outer) + length (between (l.outer + 1) l.spot.now.types.now)) + 5

abbrev pub decreases-nested_fields : goal.decreases-nested_fields
decreases-nested_fields g l = 4 * (256 * (l.spot.now.depth_left - l.outer) + length (between (l.outer + 1) l.spot.now.types.now)) + 4

abbrev pub decreases-fields : goal.decreases-fields
decreases-fields g l = 4 * (256 * (l.spot.now.depth_left - l.outer) + length (between (l.outer + 1) l.spot.now.types.now)) + 3

abbrev pub invariant-walk_values-loop-types : goal.invariant-walk_values-loop-types
invariant-walk_values-loop-types g l = record {
  ready : g.V.Visitor.ready l.visitor (length l.source.bytes.now);
  noted : AreLengths l.types l.lengths;
  within : length l.types ≤ length l.spot.types.now;
  left : (vs : ValueTrees) (rest : List ℕ) → AllStandAt l.source l.spot vs rest
      → Left l.source.order l.spot.at vs (λ place us. AllStand l.source.order l.spot.depth_left l.types place l.source.bytes.now us rest)
      (Taken (λ (done : List ValueTree). g.V.Visitor.many l.initial.visitor l.initial.gathered l.source.order l.spot.at done l.gathered l.visitor) l.source.order l.spot.at l.place l.is_first) l.place;
}

abbrev pub decreases-walk_values-loop-types : goal.decreases-walk_values-loop-types
decreases-walk_values-loop-types g l = length l.types

abbrev pub invariant-elements-loop-place : goal.invariant-elements-loop-place
invariant-elements-loop-place g l = record {
  ready : g.V.Visitor.ready l.visitor (length l.source.bytes.now);
  left : (vs : ValueTrees) (rest : List ℕ) → ElementsStandAt l.source l.spot l.end vs rest
      → Left l.source.order l.spot.at vs (λ place us. ElementsStand l.source.order l.spot.depth_left l.spot.types.now place l.end l.source.bytes.now us rest)
      (Taken (λ (done : List ValueTree). g.V.Visitor.many l.initial.visitor l.initial.gathered l.source.order l.spot.at done l.gathered l.visitor) l.source.order l.spot.at l.place l.is_first) l.place;
}

abbrev pub decreases-elements-loop-place : goal.decreases-elements-loop-place
decreases-elements-loop-place g l = l.end - l.place
