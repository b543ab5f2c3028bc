use Rattle.dbus_watch.proofs.Watching.{begins_nowhere_else, begins_there}
use Rattle.dbus_watch.proofs.laws.watch_law.Goals as goal

pub returns-clause-there : goal.returns-clause-there
returns-clause-there c = begins_there

pub returns-clause-nowhere_else : goal.returns-clause-nowhere_else
returns-clause-nowhere_else c = begins_nowhere_else
