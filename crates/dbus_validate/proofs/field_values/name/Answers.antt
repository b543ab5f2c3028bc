use Rattle.std.proofs.Common.{◌+◌, take, drop, refl, arith, rules}
use Rattle.dbus_texts.specs.Types.{STRING}
use Rattle.dbus_value_model.specs.WantedTexts.{Of}
use Rattle.dbus_message_model.specs.Messages.{Name}
use Rattle.dbus_header.specs.MessageItems.{name_row}
use Rattle.dbus_header.proofs.FieldSteps.{long_name, name_overruns, name_fits}
use Rattle.dbus_validate.proofs.HeldSteps.{unsigned, is_name, text_begins}
use Rattle.dbus_value_model.specs.Values.{TextValue}
use Rattle.dbus_value_validator.proofs.ItemSteps.{text_unpadded, text_unmeasured, text_against, text_not_ended, text_done}
use Rattle.dbus_validate.proofs.field_values.name.Goals as goal

pub returns-clause-held : goal.returns-clause-held
returns-clause-held c = λ limits.
    let run = is_name limits c.args.order c.args.end c.args.at c.args.bytes.now c.in_ok-signed.signed c.args.kind (c.in_ok-signed.ensures.gives c.args.order) in
    let place = c.in_ok-place.place in
    let ended = c.is_ended_text.ensures.accepts (rw c.if-not-is_ended_text.false (search rules)) in (
      TextValue STRING (take c.in_ok-n.n (drop (place + 4) c.args.bytes.now)),
      text_done c.args.order c.args.end 4 (name_row c.args.end) c.args.kind STRING c.in_ok-signed.signed c.args.bytes.now _ run place c.in_ok-place.ensures.gives c.in_ok-n.n c.in_ok-n.ensures.gives
          (name_fits c.args.end (c.in_ok-place.place + 4) c.in_ok-n.n c.if-n-gt-NAME_LIMIT.false (omega (arith, c.in_ok-n.ensures.fits)) c.if-end-start.false) ended,
      (refl, refl),
      λ known. text_begins c.args.at c.in_ok-signed.signed c.in_ok-place.place 4 c.in_ok-signed.ensures.moves.0 c.in_ok-place.ensures.moves.0,
    )

pub returns-in_err-signed-clause-held : goal.returns-in_err-signed-clause-held
returns-in_err-signed-clause-held c = λ limits. rw c.from_residual.ensures (unsigned limits c.args.order c.args.end c.args.at c.args.bytes.now (Name (Of c.args.kind)) (c.letter.ensures.none c.in_err-signed.was c.args.order))

pub returns-in_err-place-clause-held : goal.returns-in_err-place-clause-held
returns-in_err-place-clause-held c = λ limits.
    let run = is_name limits c.args.order c.args.end c.args.at c.args.bytes.now c.in_ok-signed.signed c.args.kind (c.in_ok-signed.ensures.gives c.args.order) in
    rw c.from_residual-in_err-place.ensures (text_unpadded c.args.order c.args.end 4 (name_row c.args.end) c.args.kind STRING c.in_ok-signed.signed c.args.bytes.now _ run (c.padding.ensures.none c.in_err-place.was))

pub returns-in_err-n-clause-held : goal.returns-in_err-n-clause-held
returns-in_err-n-clause-held c = λ limits.
    let run = is_name limits c.args.order c.args.end c.args.at c.args.bytes.now c.in_ok-signed.signed c.args.kind (c.in_ok-signed.ensures.gives c.args.order) in
    rw c.from_residual-in_err-n.ensures (text_unmeasured c.args.order c.args.end 4 (name_row c.args.end) c.args.kind STRING c.in_ok-signed.signed c.args.bytes.now _ run c.in_ok-place.place c.in_ok-place.ensures.gives (c.word.ensures.none c.in_err-n.was))

pub returns-then-n-gt-NAME_LIMIT-clause-held : goal.returns-then-n-gt-NAME_LIMIT-clause-held
returns-then-n-gt-NAME_LIMIT-clause-held c = λ limits.
    let run = is_name limits c.args.order c.args.end c.args.at c.args.bytes.now c.in_ok-signed.signed c.args.kind (c.in_ok-signed.ensures.gives c.args.order) in
    text_against c.args.order c.args.end 4 (name_row c.args.end) c.args.kind STRING c.in_ok-signed.signed c.args.bytes.now _ run c.in_ok-place.place c.in_ok-place.ensures.gives c.in_ok-n.n c.in_ok-n.ensures.gives
    (rw (long_name c.args.end (c.in_ok-place.place + 4) c.in_ok-n.n c.if-n-gt-NAME_LIMIT.true) (λ e. absurd cc))

pub returns-then-end-start-clause-held : goal.returns-then-end-start-clause-held
returns-then-end-start-clause-held c = λ limits.
    let run = is_name limits c.args.order c.args.end c.args.at c.args.bytes.now c.in_ok-signed.signed c.args.kind (c.in_ok-signed.ensures.gives c.args.order) in
    text_against c.args.order c.args.end 4 (name_row c.args.end) c.args.kind STRING c.in_ok-signed.signed c.args.bytes.now _ run c.in_ok-place.place c.in_ok-place.ensures.gives c.in_ok-n.n c.in_ok-n.ensures.gives
    (rw (name_overruns c.args.end (c.in_ok-place.place + 4) c.in_ok-n.n c.if-n-gt-NAME_LIMIT.false (omega (arith, c.in_ok-n.ensures.fits)) c.if-end-start.true) (λ e. absurd cc))

pub returns-then-not-is_ended_text-clause-held : goal.returns-then-not-is_ended_text-clause-held
returns-then-not-is_ended_text-clause-held c = λ limits.
    let run = is_name limits c.args.order c.args.end c.args.at c.args.bytes.now c.in_ok-signed.signed c.args.kind (c.in_ok-signed.ensures.gives c.args.order) in
    text_not_ended c.args.order c.args.end 4 (name_row c.args.end) c.args.kind STRING c.in_ok-signed.signed c.args.bytes.now _ run c.in_ok-place.place c.in_ok-place.ensures.gives c.in_ok-n.n c.in_ok-n.ensures.gives
    (name_fits c.args.end (c.in_ok-place.place + 4) c.in_ok-n.n c.if-n-gt-NAME_LIMIT.false (omega (arith, c.in_ok-n.ensures.fits)) c.if-end-start.false) (c.is_ended_text.ensures.refuses c.if-not-is_ended_text.true)
