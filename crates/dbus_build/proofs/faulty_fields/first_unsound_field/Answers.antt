use Rattle.std.proofs.Common.{◌-◌, refl, arith}
use Rattle.dbus_message_model.specs.PartsViews.{field_trees}
use Rattle.dbus_build.specs.BuildFaults.{HoldsSound}
use Rattle.dbus_build.proofs.Finding.{stop, sound_on, unsound_on, unsound_of, finish, field_rules, array_nests}
use Rattle.dbus_build.proofs.faulty_fields.first_unsound_field.Goals as goal
use Rattle.dbus_build.proofs.faulty_fields.first_unsound_field.Goals.{in-Sound, in_default}

pub returns-in-TooDeep : goal.returns-in-TooDeep
returns-in-TooDeep g c = (
  refl,
  λ h. stop (field_rules (c.args.depth_left - 1)) HoldsSound (λ n f. f.code) c.args.fields.now c.loop-field.field-index
      c.field-item.result c.loop-field-test.true c.field-item.is c.in-TooDeep.ensures
      ((array_nests c.args.depth_left (field_trees c.args.fields.now) (omega (arith, c.if-depth_left-eq0.false))).0 h),
)

pub loop-field-preserved : goal.loop-field-preserved
loop-field-preserved g c = elim c.match-check_field.branch [
  | in-Sound w ↦ rw w.first-is
      (sound_on (field_rules (c.args.depth_left - 1)) HoldsSound (λ n f. f.code) c.args.fields.now c.loop-field.field-index
      c.field-item.result c.loop-field-test.true c.field-item.is c.loop-field.first w.in-Sound.ensures c.loop-field.invariant)
  | in_default w ↦
      rw (w.first-is, w.or-first.ensures)
      (unsound_on (field_rules (c.args.depth_left - 1)) HoldsSound (λ n f. f.code) c.args.fields.now c.loop-field.field-index
      c.field-item.result c.loop-field-test.true c.field-item.is c.loop-field.first
      (unsound_of _ _ _ c.check_field.result w.in_default.not-TooDeep w.in_default.not-Sound c.check_field.ensures) c.loop-field.invariant)
]

pub returns : goal.returns
returns g c =
    let all = finish (field_rules (c.args.depth_left - 1)) HoldsSound (λ n f. f.code) c.args.fields.now c.loop-field.field-index
    c.loop-field.first c.loop-field-test.false c.loop-field.invariant in
    ((array_nests c.args.depth_left (field_trees c.args.fields.now) (omega (arith, c.if-depth_left-eq0.false))).1 all.0, all.1, all.2)
