use Rattle.std.proofs.Common.{◌+◌, refl, arith}
use Rattle.dbus_texts.specs.Types.{UINT32}
use Rattle.dbus_value_model.specs.declared.fault.Reason.TheVariants as reasons
use Rattle.dbus_message_model.specs.Messages.{Serial}
use Rattle.dbus_header.specs.MessageItems.{not_zero_row}
use Rattle.dbus_header.proofs.Fields.{fits_not_zero}
use Rattle.dbus_value_model.specs.Values.{NumberValue}
use Rattle.dbus_value_validator.proofs.ItemSteps.{number_unpadded, number_unread, number_ends, number_against}
use Rattle.dbus_validate.proofs.HeldSteps.{unsigned, is_serial}
use Rattle.dbus_validate.proofs.field_values.serial.Goals as goal

pub returns-clause-held : goal.returns-clause-held
returns-clause-held c = λ limits.
    let run = is_serial limits c.args.order c.args.end c.args.at c.args.bytes.now c.in_ok-signed.signed (c.in_ok-signed.ensures.gives c.args.order) in
    (NumberValue UINT32 c.in_ok-number.number, number_ends c.args.order c.args.end 4 (not_zero_row reasons.ZeroSerial) UINT32 c.in_ok-signed.signed c.args.bytes.now _ run c.in_ok-place.place c.in_ok-place.ensures.gives c.in_ok-number.number c.in_ok-number.ensures.gives (fits_not_zero reasons.ZeroSerial (c.in_ok-place.place + 4) c.in_ok-number.number (omega arith)), (refl, refl), λ known. refl)

pub returns-in_err-signed-clause-held : goal.returns-in_err-signed-clause-held
returns-in_err-signed-clause-held c = λ limits. rw c.from_residual.ensures (unsigned limits c.args.order c.args.end c.args.at c.args.bytes.now Serial (c.letter.ensures.none c.in_err-signed.was c.args.order))

pub returns-in_err-place-clause-held : goal.returns-in_err-place-clause-held
returns-in_err-place-clause-held c = λ limits.
    let run = is_serial limits c.args.order c.args.end c.args.at c.args.bytes.now c.in_ok-signed.signed (c.in_ok-signed.ensures.gives c.args.order) in
    rw c.from_residual-in_err-place.ensures (number_unpadded c.args.order c.args.end 4 (not_zero_row reasons.ZeroSerial) UINT32 c.in_ok-signed.signed c.args.bytes.now _ run (c.padding.ensures.none c.in_err-place.was))

pub returns-in_err-number-clause-held : goal.returns-in_err-number-clause-held
returns-in_err-number-clause-held c = λ limits.
    let run = is_serial limits c.args.order c.args.end c.args.at c.args.bytes.now c.in_ok-signed.signed (c.in_ok-signed.ensures.gives c.args.order) in
    rw c.from_residual-in_err-number.ensures (number_unread c.args.order c.args.end 4 (not_zero_row reasons.ZeroSerial) UINT32 c.in_ok-signed.signed c.args.bytes.now _ run c.in_ok-place.place c.in_ok-place.ensures.gives (c.word.ensures.none c.in_err-number.was))

pub returns-then-number-eq0-clause-held : goal.returns-then-number-eq0-clause-held
returns-then-number-eq0-clause-held c = λ limits.
    let run = is_serial limits c.args.order c.args.end c.args.at c.args.bytes.now c.in_ok-signed.signed (c.in_ok-signed.ensures.gives c.args.order) in
    number_against c.args.order c.args.end 4 (not_zero_row reasons.ZeroSerial) UINT32 c.in_ok-signed.signed c.args.bytes.now _ run c.in_ok-place.place c.in_ok-place.ensures.gives c.in_ok-number.number c.in_ok-number.ensures.gives (rw c.if-number-eq0.true (λ e. absurd cc))
