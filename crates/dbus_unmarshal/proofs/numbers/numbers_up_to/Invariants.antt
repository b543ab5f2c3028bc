use Rattle.std.proofs.Common.{◌≡◌, ◌-◌, ℕ, List}
use Rattle.dbus_value_model.specs.Bytes.{gap_to}
use Rattle.dbus_value_model.specs.Values.{ValueTrees}
use Rattle.dbus_walk.specs.Standing.{ElementsStand, ElementsStandAt}
use Rattle.dbus_walk.proofs.Walks.{Left}
use Rattle.dbus_unmarshal.specs.Builds.{AreBuilt}
use Rattle.dbus_unmarshal.proofs.numbers.numbers_up_to.Given as goal

abbrev pub invariant-loop-place : goal.invariant-loop-place
invariant-loop-place g l = record {
  aligned : gap_to l.fn.size l.place ≡ 0;
  left : (vs : ValueTrees) (rest : List ℕ) → ElementsStandAt l.source l.spot l.end vs rest
      → Left l.source.order l.spot.at vs (λ place us. ElementsStand l.source.order l.spot.depth_left l.spot.types.now place l.end l.source.bytes.now us rest) (λ done. AreBuilt done l.values.items) l.place;
}

abbrev pub decreases-loop-place : goal.decreases-loop-place
decreases-loop-place g l = l.end - l.place
