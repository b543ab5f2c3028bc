use Rattle.dbus_match.proofs.Noted.{argument_there}
use Rattle.dbus_match.proofs.argument.argument_in.Goals as goal

pub returns-then-n-arguments : goal.returns-then-n-arguments
returns-then-n-arguments c = λ xs are. argument_there c.args.arguments.now xs c.args.n _ c.if-n-arguments.true are
