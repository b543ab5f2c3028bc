use Rattle.std.proofs.Common.{◌-◌, ◌≤◌, ℕ, List, length, drop}
use Rattle.dbus_value_model.specs.Values.{ValueTrees}
use Rattle.dbus_walk.specs.Standing.{AllStand, AllStandAt}
use Rattle.dbus_walk.proofs.Walks.{Left}
use Rattle.dbus_value_text.proofs.Rows.{ValuesLed}
use Rattle.dbus_value_text.proofs.body.write_body.Given as goal
use denote.Shadow.{shadow}
use denote.Text.{Utf8}

abbrev pub invariant-loop-pos : goal.invariant-loop-pos
invariant-loop-pos g l = record {
  within : l.pos ≤ length l.body.types.now;
  left : (vs : ValueTrees) (rest : List ℕ) → AllStandAt l.source l.body vs rest
      → Left l.source.order l.body.at vs (λ place us. AllStand l.source.order l.body.depth_left (drop l.pos l.body.types.now) place l.source.bytes.now us rest)
      (ValuesLed g.D.Draft.gains l.lead l.separator l.initial.draft g.F.ValueForm.is_text l.draft l.before) l.place;
  utf8 : shadow (Utf8 l.before);
}

abbrev pub decreases-loop-pos : goal.decreases-loop-pos
decreases-loop-pos g l = length l.body.types.now - l.pos
