use Rattle.dbus_watch.proofs.Tables.{table_answers, table_begins, table_settles}
use Rattle.dbus_watch.proofs.laws.server_law.Goals as goal

pub returns-clause-answers : goal.returns-clause-answers
returns-clause-answers c = table_answers

pub returns-clause-settles : goal.returns-clause-settles
returns-clause-settles c = table_settles

pub returns-clause-begins : goal.returns-clause-begins
returns-clause-begins c = table_begins
