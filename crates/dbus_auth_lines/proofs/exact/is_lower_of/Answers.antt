use Rattle.dbus_auth_lines.proofs.ExactLines.{lower_is, lower_is_not}
use Rattle.dbus_auth_lines.proofs.exact.is_lower_of.Goals as goal

pub returns-then-is_lower : goal.returns-then-is_lower
returns-then-is_lower c =
    lower_is c.args.word.now c.args.digits.now c.eq_ignore_ascii_case.result (c.is_lower.ensures.0 c.if-is_lower.true) c.eq_ignore_ascii_case.ensures.test

pub returns-else-is_lower : goal.returns-else-is_lower
returns-else-is_lower c = lower_is_not c.args.word.now c.args.digits.now c.is_lower.result c.if-is_lower.false c.is_lower.ensures
