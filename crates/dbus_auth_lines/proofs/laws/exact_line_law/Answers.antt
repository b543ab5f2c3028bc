use Rattle.dbus_auth_lines.proofs.ExactLines.{written_to_server, written_to_client, exact_is_line_of_client, exact_is_line_of_server}
use Rattle.dbus_auth_lines.proofs.laws.exact_line_law.Goals as goal

pub returns-clause-written_to_server : goal.returns-clause-written_to_server
returns-clause-written_to_server c = written_to_server

pub returns-clause-written_to_client : goal.returns-clause-written_to_client
returns-clause-written_to_client c = written_to_client

pub returns-clause-line_to_server : goal.returns-clause-line_to_server
returns-clause-line_to_server c = exact_is_line_of_client

pub returns-clause-line_to_client : goal.returns-clause-line_to_client
returns-clause-line_to_client c = exact_is_line_of_server
