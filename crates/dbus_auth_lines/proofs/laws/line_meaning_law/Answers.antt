use Rattle.dbus_auth_lines.proofs.Meanings.{client_means, server_means}
use Rattle.dbus_auth_lines.proofs.laws.line_meaning_law.Goals as goal

pub returns-clause-client : goal.returns-clause-client
returns-clause-client c = client_means

pub returns-clause-server : goal.returns-clause-server
returns-clause-server c = server_means
