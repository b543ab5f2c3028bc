use Rattle.std.proofs.Common.{◌≡◌, ◌+◌, take, refl, sym, ◌∙◌, inl, inr}
use Rattle.dbus_value_model.specs.Reading.{number_of}
use Rattle.dbus_texts.specs.Types.{NumberType}
use Rattle.dbus_types.specs.Alignments.{width}
use Rattle.dbus_value_checker.proofs.FrontSteps.{number_stop, number_there, number_validated, plain_row, word_width}
use Rattle.dbus_value_checker.proofs.fronts.number_front.Goals.{then-code-eq98-via-then-code-eq98, then-code-eq98-via-else-code-eq98+then-code-eq104}
use Rattle.dbus_value_checker.proofs.fronts.number_front.Goals as goal

pub returns-in-Some-clause-gives : goal.returns-in-Some-clause-gives
returns-in-Some-clause-gives c = λ k e.
    let h = c.in-Ok.ensures in
    let four : 4 ≡ width k = word_width k c.args.code e (elim c.then-code-eq98.branch [ then-code-eq98-via-then-code-eq98 w ↦ inl w.if-code-eq98.true | then-code-eq98-via-else-code-eq98+then-code-eq104 w ↦ inr w.if-code-eq104.true ]) in
    rw c.refuse.ensures (number_validated c.args.index_limit c.args.order c.args.end c.args.offset c.args.bytes.now k 4 four c.in-Ok.n h.0 h.1 h.2 c.in-Some.reason (sym (c.in-Some.ensures k (c.args.offset + 4) e)))

pub returns-in-None-clause-gives : goal.returns-in-None-clause-gives
returns-in-None-clause-gives c = λ k e.
    let h = c.in-Ok.ensures in
    let four : 4 ≡ width k = word_width k c.args.code e (elim c.then-code-eq98.branch [ then-code-eq98-via-then-code-eq98 w ↦ inl w.if-code-eq98.true | then-code-eq98-via-else-code-eq98+then-code-eq104 w ↦ inr w.if-code-eq104.true ]) in
    number_there c.args.index_limit c.args.order c.args.end c.args.offset c.args.bytes.now k 4 four c.in-Ok.n h.0 h.1 h.2 (sym (c.in-None.ensures k (c.args.offset + 4) e))

pub returns-in-Err-clause-gives : goal.returns-in-Err-clause-gives
returns-in-Err-clause-gives c = λ k e.
    let four : 4 ≡ width k = word_width k c.args.code e (elim c.then-code-eq98.branch [ then-code-eq98-via-then-code-eq98 w ↦ inl w.if-code-eq98.true | then-code-eq98-via-else-code-eq98+then-code-eq104 w ↦ inr w.if-code-eq104.true ]) in
    number_stop c.args.index_limit c.args.order c.args.end c.args.offset c.args.bytes.now k 4 four c.in-Err.stop c.in-Err.ensures

pub returns-in-Ok-fixed-clause-gives : goal.returns-in-Ok-fixed-clause-gives
returns-in-Ok-fixed-clause-gives c = λ k e.
    let h = c.in-Ok-fixed.ensures in
    let w = c.from-width.result in
    let n = number_of c.args.order (take w c.args.bytes.now) in
    number_there c.args.index_limit c.args.order c.args.end c.args.offset c.args.bytes.now k w (c.from-width.ensures ∙ c.boundary.ensures.value (NumberType k) e) n h.0 h.1 refl
    (plain_row c.args.index_limit k c.args.code n (c.args.offset + w) e c.if-code-eq98.false c.if-code-eq104.false)

pub returns-in-Err-fixed-clause-gives : goal.returns-in-Err-fixed-clause-gives
returns-in-Err-fixed-clause-gives c = λ k e. number_stop c.args.index_limit c.args.order c.args.end c.args.offset c.args.bytes.now k c.from-width.result (c.from-width.ensures ∙ c.boundary.ensures.value (NumberType k) e) c.in-Err-fixed.stop c.in-Err-fixed.ensures
