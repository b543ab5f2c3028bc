use Rattle.dbus_build.proofs.SoundParts.{no_fault}
use Rattle.dbus_build.proofs.Built.{only_memory}
use Rattle.dbus_build.proofs.building.build_within.Goals as goal

pub returns-in-Err-clause-accepted : goal.returns-in-Err-clause-accepted
returns-in-Err-clause-accepted g c = only_memory c.args.limits c.args.parts c.in-Err.fault c.in-Err.ensures

pub returns-in-Err-clause-taken : goal.returns-in-Err-clause-taken
returns-in-Err-clause-taken g c =
    λ valid packed. only_memory c.args.limits c.args.parts c.in-Err.fault c.in-Err.ensures
    (no_fault c.args.limits c.args.parts valid packed)
