use Rattle.dbus_value_validator.proofs.OpenStructs.{one_byte_end}
use Rattle.dbus_value_validator.proofs.ends.end_of.Goals as goal

pub returns-then-code-ne123-clause-value : goal.returns-then-code-ne123-clause-value
returns-then-code-ne123-clause-value c = one_byte_end c.args.types.now c.args.at c.requires.inside c.if-code-ne97.true c.if-code-ne40.true c.if-code-ne123.true
