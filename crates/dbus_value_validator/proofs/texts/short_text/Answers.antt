use Rattle.std.proofs.Common.{ℕ, ◌+◌, drop, subst, sym, ◌∙◌, arith}
use Rattle.dbus_value_model.specs.ValueItems.{text_row}
use Rattle.dbus_value_laws.proofs.Composition.{row_fits}
use Rattle.dbus_value_laws.proofs.ReadSteps.{number_passes, text_fits}
use Rattle.dbus_value_validator.specs.Endings.{EndedText}
use Rattle.dbus_value_validator.proofs.ReadParts.{same_done, row_unread, row_against}
use Rattle.dbus_value_validator.proofs.texts.short_text.Goals as goal

pub returns-clause-measures : goal.returns-clause-measures
returns-clause-measures c = λ order.
    rw c.from-n.ensures (number_passes order 1 c.args.end (text_row c.args.end) c.args.at (drop c.args.at c.args.bytes.now) c.in_ok-byte.field-0 (c.args.at + 1) (drop (c.args.at + 1) c.args.bytes.now) (c.in_ok-byte.ensures.gives order)
    (text_fits c.args.end (c.args.at + 1) c.in_ok-byte.field-0 (omega (arith, c.in_ok-byte.ensures.fits))))

pub returns-in_err-byte-clause-none : goal.returns-in_err-byte-clause-none
returns-in_err-byte-clause-none c = λ none order n measured ended.
    row_unread order 1 c.args.end (text_row c.args.end) c.args.at (drop c.args.at c.args.bytes.now) (c.byte.ensures.none c.in_err-byte.was order) n (c.args.at + 1) (drop (c.args.at + 1) c.args.bytes.now) measured

pub returns-then-end-first-clause-none : goal.returns-then-end-first-clause-none
returns-then-end-first-clause-none c = λ none order n measured ended.
    let first = c.args.at + 1 in
    let left = drop first c.args.bytes.now in
    row_against order 1 c.args.end (text_row c.args.end) c.args.at (drop c.args.at c.args.bytes.now) c.in_ok-byte.field-0 first left (c.in_ok-byte.ensures.gives order)
    (λ e. absurd (omega (arith, row_fits c.args.end first c.in_ok-byte.field-0 e, c.from-n.ensures, c.if-end-first.true, c.in_ok-byte.ensures.fits))) n first left measured

pub returns-then-not-is_ended_text-clause-none : goal.returns-then-not-is_ended_text-clause-none
returns-then-not-is_ended_text-clause-none c = λ none order n measured ended.
    let first = c.args.at + 1 in
    let left = drop first c.args.bytes.now in
    let there = number_passes order 1 c.args.end (text_row c.args.end) c.args.at (drop c.args.at c.args.bytes.now) c.in_ok-byte.field-0 first left (c.in_ok-byte.ensures.gives order)
    (text_fits c.args.end first c.in_ok-byte.field-0 (omega (arith, c.from-n.ensures, c.if-end-first.false, c.in_ok-byte.ensures.fits))) in
    let same = same_done n c.in_ok-byte.field-0 first first left left (sym measured ∙ there) in
    c.is_ended_text.ensures.refuses c.if-not-is_ended_text.true (subst (λ (m : ℕ). EndedText c.args.kind m first c.args.bytes.now) (same.0 ∙ sym c.from-n.ensures) ended)
