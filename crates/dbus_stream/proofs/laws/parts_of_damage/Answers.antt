use Rattle.dbus_stream.proofs.PartSteps.{goes_by_parts, resyncs_by_parts}
use Rattle.dbus_stream.proofs.laws.parts_of_damage.Goals as goal

pub returns-clause-goes : goal.returns-clause-goes
returns-clause-goes g c = goes_by_parts

pub returns-clause-resyncs : goal.returns-clause-resyncs
returns-clause-resyncs g c = resyncs_by_parts
