use Rattle.dbus_calls.proofs.Callers.{one_rises, several_found}
use Rattle.dbus_calls.proofs.caller_calls.CallerCalls.append_to.Goals as goal

pub returns-in_ok-push-in-One-clause-ordered : goal.returns-in_ok-push-in-One-clause-ordered
returns-in_ok-push-in-One-clause-ordered g c = one_rises _ _ _ c.in-One.is

pub returns-in-Several-clause-found : goal.returns-in-Several-clause-found
returns-in-Several-clause-found g c = several_found c.append_each.result _ _ c.in-Several.is c.append_each.ensures.found
