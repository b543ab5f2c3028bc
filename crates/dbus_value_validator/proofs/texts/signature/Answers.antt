use Rattle.std.proofs.Common.{◌+◌, take, drop}
use Rattle.dbus_texts.specs.Types.{SIGNATURE}
use Rattle.dbus_value_model.specs.Values.{TextValue}
use Rattle.dbus_value_validator.proofs.ItemSteps.{signature_done, signature_unread}
use Rattle.dbus_value_validator.proofs.texts.signature.Goals as goal

pub returns-clause-gives : goal.returns-clause-gives
returns-clause-gives c = λ order. (
  TextValue SIGNATURE (take c.in_ok-n.n (drop (c.args.at + 1) c.args.bytes.now)),
  signature_done order c.args.end c.args.at c.args.bytes.now c.requires.at_most c.in_ok-n.n (c.in_ok-n.ensures.measures order) c.in_ok-n.ensures.text,
)

pub returns-in_err-n-clause-gives : goal.returns-in_err-n-clause-gives
returns-in_err-n-clause-gives c = λ order. rw c.from_residual.ensures (signature_unread order c.args.end c.args.at c.args.bytes.now c.requires.at_most (c.short_text.ensures.none c.in_err-n.was order))
