use Rattle.std.proofs.Common.{None, refl}
use Rattle.dbus_texts.specs.Types.{UINT32, NumberType}
use Rattle.dbus_value_model.specs.ValueItems.{number_row}
use Rattle.dbus_message_model.specs.Messages.{OfType}
use Rattle.dbus_value_model.specs.Values.{NumberValue}
use Rattle.dbus_value_validator.proofs.ItemSteps.{number_unpadded, number_unread, number_ends}
use Rattle.dbus_validate.proofs.HeldSteps.{unsigned, is_count}
use Rattle.dbus_validate.proofs.field_values.number.Goals as goal

pub returns-clause-held : goal.returns-clause-held
returns-clause-held c = λ limits.
    let run = is_count limits c.args.order c.args.end c.args.at c.args.bytes.now c.in_ok-signed.signed (c.in_ok-signed.ensures.gives c.args.order) in
    (NumberValue UINT32 c.in_ok-number.number, number_ends c.args.order c.args.end 4 (number_row None UINT32) UINT32 c.in_ok-signed.signed c.args.bytes.now _ run c.in_ok-place.place c.in_ok-place.ensures.gives c.in_ok-number.number c.in_ok-number.ensures.gives refl, (refl, refl), λ known. refl)

pub returns-in_err-signed-clause-held : goal.returns-in_err-signed-clause-held
returns-in_err-signed-clause-held c = λ limits. rw c.from_residual.ensures (unsigned limits c.args.order c.args.end c.args.at c.args.bytes.now (OfType (NumberType UINT32)) (c.letter.ensures.none c.in_err-signed.was c.args.order))

pub returns-in_err-place-clause-held : goal.returns-in_err-place-clause-held
returns-in_err-place-clause-held c = λ limits.
    let run = is_count limits c.args.order c.args.end c.args.at c.args.bytes.now c.in_ok-signed.signed (c.in_ok-signed.ensures.gives c.args.order) in
    rw c.from_residual-in_err-place.ensures (number_unpadded c.args.order c.args.end 4 (number_row None UINT32) UINT32 c.in_ok-signed.signed c.args.bytes.now _ run (c.padding.ensures.none c.in_err-place.was))

pub returns-in_err-number-clause-held : goal.returns-in_err-number-clause-held
returns-in_err-number-clause-held c = λ limits.
    let run = is_count limits c.args.order c.args.end c.args.at c.args.bytes.now c.in_ok-signed.signed (c.in_ok-signed.ensures.gives c.args.order) in
    rw c.from_residual-in_err-number.ensures (number_unread c.args.order c.args.end 4 (number_row None UINT32) UINT32 c.in_ok-signed.signed c.args.bytes.now _ run c.in_ok-place.place c.in_ok-place.ensures.gives (c.word.ensures.none c.in_err-number.was))
