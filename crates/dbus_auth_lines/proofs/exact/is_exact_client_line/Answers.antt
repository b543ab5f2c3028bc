use Rattle.dbus_auth_lines.proofs.ExactLines.{exact_client}
use Rattle.dbus_auth_lines.proofs.exact.is_exact_client_line.Goals as goal

pub returns-then-is_short : goal.returns-then-is_short
returns-then-is_short c = exact_client c.args.line.now (c.is_short.result) (c.is_client_text.result) c.is_short.ensures c.if-is_short.true c.is_client_text.ensures
