use Rattle.std.proofs.Common.{◌+◌, take, drop, refl, ◌∙◌, arith}
use Rattle.dbus_texts.specs.Types.{SIGNATURE, TextType}
use Rattle.dbus_value_model.specs.Values.{TextValue}
use Rattle.dbus_value_model.proofs.Periods.{no_gap}
use Rattle.dbus_message_model.specs.Messages.{OfType}
use Rattle.dbus_value_validator.proofs.ItemSteps.{signature_done, signature_unread}
use Rattle.dbus_value_validator.proofs.ReadParts.{not_same}
use Rattle.dbus_validate.proofs.HeldSteps.{unsigned, is_text_value, text_begins}
use Rattle.dbus_validate.proofs.field_values.signature.Goals as goal

pub returns-clause-held : goal.returns-clause-held
returns-clause-held c = λ limits. (
  TextValue SIGNATURE (take c.in_ok-length.length (drop (c.in_ok-signed.signed + 1) c.args.bytes.now)),
  is_text_value limits c.args.order c.args.end c.args.at c.args.bytes.now c.in_ok-signed.signed SIGNATURE (c.in_ok-signed.ensures.gives c.args.order)
      ∙ signature_done c.args.order c.args.end c.in_ok-signed.signed c.args.bytes.now c.in_ok-signed.ensures.moves.1 c.in_ok-length.length (c.in_ok-length.ensures.measures c.args.order) c.in_ok-length.ensures.text,
  (refl, refl),
  λ known. let none = no_gap c.in_ok-signed.signed in text_begins c.args.at c.in_ok-signed.signed c.in_ok-signed.signed 1 c.in_ok-signed.ensures.moves.0 (omega (arith, none)),
)

pub returns-in_err-signed-clause-held : goal.returns-in_err-signed-clause-held
returns-in_err-signed-clause-held c = λ limits. rw c.from_residual.ensures (unsigned limits c.args.order c.args.end c.args.at c.args.bytes.now (OfType (TextType SIGNATURE)) (c.letter.ensures.none c.in_err-signed.was c.args.order))

pub returns-in_err-length-clause-held : goal.returns-in_err-length-clause-held
returns-in_err-length-clause-held c = λ limits.
    rw c.from_residual-in_err-length.ensures (not_same _ _ (is_text_value limits c.args.order c.args.end c.args.at c.args.bytes.now c.in_ok-signed.signed SIGNATURE (c.in_ok-signed.ensures.gives c.args.order))
    (signature_unread c.args.order c.args.end c.in_ok-signed.signed c.args.bytes.now c.in_ok-signed.ensures.moves.1 (c.short_text.ensures.none c.in_err-length.was c.args.order)))
