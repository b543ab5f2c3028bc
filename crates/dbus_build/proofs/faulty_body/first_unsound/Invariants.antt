use Rattle.dbus_value_model.specs.Forming.{NestWithin}
use Rattle.dbus_value_model.specs.Verdicts.{HoldNumbers}
use Rattle.dbus_value_model.specs.ValueViews.{value_trees_of}
use Rattle.dbus_build.specs.BuildFaults.{IsSound}
use Rattle.dbus_build.proofs.Finding.{IsOn}
use Rattle.dbus_build.proofs.faulty_body.first_unsound.Given as goal

abbrev pub invariant-loop-i : goal.invariant-loop-i
invariant-loop-i g l =
    IsOn IsSound (λ n v. n) (λ vs. NestWithin l.depth_left (value_trees_of vs)) (λ vs. HoldNumbers (value_trees_of vs)) l.values l.i l.first
