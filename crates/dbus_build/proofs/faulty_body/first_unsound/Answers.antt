use Rattle.std.proofs.Common.{refl, arith}
use Rattle.dbus_build.specs.BuildFaults.{IsSound}
use Rattle.dbus_build.proofs.Finding.{stop, sound_on, unsound_on, unsound_of, soundness, finish, value_rules}
use Rattle.dbus_build.proofs.faulty_body.first_unsound.Goals as goal
use Rattle.dbus_build.proofs.faulty_body.first_unsound.Goals.{in-Sound, in_default}

pub returns-in-TooDeep : goal.returns-in-TooDeep
returns-in-TooDeep g c = (
  refl,
  stop (value_rules c.args.depth_left) IsSound (λ n v. n) c.args.values.now c.loop-i.i c.index-values-i.result
      (omega (arith, c.loop-i-test.true)) c.index-values-i.is c.in-TooDeep.ensures,
)

pub loop-i-preserved : goal.loop-i-preserved
loop-i-preserved g c = elim c.match-check_nested.branch [
  | in-Sound w ↦
      let found = w.in-Sound.ensures in
      rw w.first-is
      (sound_on (value_rules c.args.depth_left) IsSound (λ n v. n) c.args.values.now c.loop-i.i c.index-values-i.result
      (omega (arith, c.loop-i-test.true)) c.index-values-i.is c.loop-i.first (found.0, (found.1, found.2), found.3) c.loop-i.invariant)
  | in_default w ↦
      rw (w.first-is, w.or-first.ensures)
      (unsound_on (value_rules c.args.depth_left) IsSound (λ n v. n) c.args.values.now c.loop-i.i c.index-values-i.result
      (omega (arith, c.loop-i-test.true)) c.index-values-i.is c.loop-i.first
      (unsound_of _ _ _ c.check_nested.result w.in_default.not-TooDeep w.in_default.not-Sound
      (soundness _ _ _ _ c.check_nested.result c.check_nested.ensures)) c.loop-i.invariant)
]

pub returns : goal.returns
returns g c =
    finish (value_rules c.args.depth_left) IsSound (λ n v. n) c.args.values.now c.loop-i.i c.loop-i.first
    (omega (arith, c.loop-i-test.false)) c.loop-i.invariant
