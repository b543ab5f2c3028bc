use Rattle.std.proofs.Common.{◌≡◌, ◌-◌, ℕ, List}
use Rattle.std.specs.List.{flat_map}
use Rattle.dbus_message_model.specs.Messages.{FieldTree}
use Rattle.dbus_walk.specs.Fields.{FieldsStand}
use Rattle.dbus_walk.proofs.FieldParts.{Walked}
use Rattle.dbus_c_build.specs.Drafts.{IsKept, in_place}
use Rattle.dbus_c_build.specs.Building.{with_fields}
use Rattle.dbus_c_build.proofs.kept.append_kept.Given as goal

abbrev pub invariant-loop-place : goal.invariant-loop-place
invariant-loop-place g l = (fs : List FieldTree) (rest : List ℕ) → IsKept l.given.limits l.given.bytes.now l.parts.order l.kept fs → FieldsStand l.source l.given.limits.depth fs rest
    → Walked l.source l.given.limits.depth l.end fs rest (λ done. l.out.items ≡ with_fields l.parts.order (flat_map (in_place l.parts fs) done) l.fn.out.items) l.place

abbrev pub decreases-loop-place : goal.decreases-loop-place
decreases-loop-place g l = l.end - l.place
