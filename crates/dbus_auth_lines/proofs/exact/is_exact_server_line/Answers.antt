use Rattle.dbus_auth_lines.proofs.ExactLines.{exact_server}
use Rattle.dbus_auth_lines.proofs.exact.is_exact_server_line.Goals as goal

pub returns-then-is_short : goal.returns-then-is_short
returns-then-is_short c = exact_server c.args.line.now (c.is_short.result) (c.is_server_text.result) c.is_short.ensures c.if-is_short.true c.is_server_text.ensures
