use Rattle.dbus_c_build.specs.Building.{AreShortBelow}
use Rattle.dbus_c_build.proofs.lengths.check_lengths.Given as goal

abbrev pub invariant-loop-code : goal.invariant-loop-code
invariant-loop-code l = AreShortBelow l.parts l.code
