use Rattle.dbus_value_laws.proofs.KindLaws.{signature_types}
use Rattle.case_engines.proofs.Signing.{begun}
use Rattle.case_engines.proofs.checking.begin.Goals as goal

pub begin-requires-clause-types : goal.begin-requires-clause-types
begin-requires-clause-types c = signature_types _ (rw c.in-Ok.is at c.check_signature.ensures)

pub returns-in-Ok : goal.returns-in-Ok
returns-in-Ok c taken = begun _ _ _ _ _ _ _ (rw c.in-Ok.is at c.check_signature.ensures) c.begin.ensures
