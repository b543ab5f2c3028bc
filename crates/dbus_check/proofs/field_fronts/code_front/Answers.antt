use Rattle.std.proofs.Common.{◌+◌, drop, refl, sym, ◌∙◌}
use Rattle.std.proofs.lemmas.Result.{err_from_is_err_and}
use Rattle.dbus_value_model.specs.declared.fault.Reason.TheVariants as reasons
use Rattle.dbus_value_model.specs.declared.stop.Stop.TheVariants as stops
use Rattle.dbus_value_model.specs.Items.{fault}
use Rattle.dbus_value_checker.proofs.FrontSteps.{lacks_number, number_taken, number_refused}
use Rattle.dbus_check.specs.Heading.{seen_row}
use Rattle.dbus_check.proofs.FieldSteps.{no_code, code_again, code_new, padding_stops, struct_too_deep, code_stops, variant_too_deep, code_there}
use Rattle.dbus_check.proofs.field_fronts.code_front.Goals as goal

pub returns-in_err-zeros-clause-gives : goal.returns-in_err-zeros-clause-gives
returns-in_err-zeros-clause-gives c = let p = err_from_is_err_and c.from_residual.result c.from_residual.ensures.1 in rw (p.1, p.2)
    (λ order codes sees. padding_stops c.args.limits order c.args.end codes c.args.offset c.args.bytes.now c.in_err-zeros.field-0.0 c.in_err-zeros.ensures.gives)

pub returns-then-limits-lt2-clause-gives : goal.returns-then-limits-lt2-clause-gives
returns-then-limits-lt2-clause-gives c = λ order codes sees. rw c.refuse.ensures (struct_too_deep c.args.limits order c.args.end codes c.args.offset c.args.bytes.now c.in_ok-zeros.zeros c.in_ok-zeros.ensures.gives (drop c.in_ok-zeros.zeros c.args.bytes.now) refl c.if-limits-lt2.true)

pub returns-in_err-code-clause-gives : goal.returns-in_err-code-clause-gives
returns-in_err-code-clause-gives c = let p = err_from_is_err_and c.from_residual-in_err-code.result c.from_residual-in_err-code.ensures.1 in rw (p.1, p.2) (λ order codes sees.
    let n = c.in_ok-zeros.zeros in
    let e = c.in_err-code.field-0.0 in
    code_stops c.args.limits order c.args.end codes c.args.offset c.args.bytes.now n c.in_ok-zeros.ensures.gives c.rest_after.result.now c.rest_after.ensures c.if-limits-lt2.false e
    ((lacks_number order 1 c.args.end (seen_row codes) (c.args.offset + n) c.rest_after.result.now e c.in_err-code.ensures)))

pub returns-then-code-eq0-clause-gives : goal.returns-then-code-eq0-clause-gives
returns-then-code-eq0-clause-gives c = λ order codes sees.
    let n = c.in_ok-zeros.zeros in
    let h = c.in_ok-code.ensures in
    let e = stops.Refused (fault (c.args.offset + n) reasons.FieldCode) in
    rw c.refuse-then-code-eq0.ensures (code_stops c.args.limits order c.args.end codes c.args.offset c.args.bytes.now n c.in_ok-zeros.ensures.gives c.rest_after.result.now c.rest_after.ensures c.if-limits-lt2.false e
    ((number_refused order 1 c.args.end (seen_row codes) (c.args.offset + n) c.rest_after.result.now c.in_ok-code.code h.0 h.1 (h.2 order) reasons.FieldCode (no_code codes (c.args.offset + n + 1) c.in_ok-code.code c.if-code-eq0.true))))

pub returns-then-is_again-clause-gives : goal.returns-then-is_again-clause-gives
returns-then-is_again-clause-gives c = λ order codes sees.
    let n = c.in_ok-zeros.zeros in
    let h = c.in_ok-code.ensures in
    let e = stops.Refused (fault (c.args.offset + n) reasons.FieldTwice) in
    let again = sym (c.is_again.ensures codes sees) ∙ c.if-is_again.true in
    rw c.refuse-then-is_again.ensures (code_stops c.args.limits order c.args.end codes c.args.offset c.args.bytes.now n c.in_ok-zeros.ensures.gives c.rest_after.result.now c.rest_after.ensures c.if-limits-lt2.false e
    ((number_refused order 1 c.args.end (seen_row codes) (c.args.offset + n) c.rest_after.result.now c.in_ok-code.code h.0 h.1 (h.2 order) reasons.FieldTwice (code_again codes (c.args.offset + n + 1) c.in_ok-code.code c.if-code-eq0.false again))))

pub returns-then-limits-lt3-clause-gives : goal.returns-then-limits-lt3-clause-gives
returns-then-limits-lt3-clause-gives c = λ order codes sees.
    let n = c.in_ok-zeros.zeros in
    let h = c.in_ok-code.ensures in
    let code = c.in_ok-code.code in
    let again = sym (c.is_again.ensures codes sees) ∙ c.if-is_again.false in
    rw c.refuse-then-limits-lt3.ensures (variant_too_deep c.args.limits order c.args.end codes c.args.offset c.args.bytes.now n c.in_ok-zeros.ensures.gives c.rest_after.result.now c.rest_after.ensures c.if-limits-lt2.false code
    ((h.0, number_taken order 1 c.args.end (seen_row codes) (c.args.offset + n) c.rest_after.result.now c.in_ok-code.code h.0 h.1 (h.2 order) (code_new codes (c.args.offset + n + 1) c.in_ok-code.code c.if-code-eq0.false again))) c.if-limits-lt3.true)

pub returns-clause-gives : goal.returns-clause-gives
returns-clause-gives c = λ order codes sees.
    let n = c.in_ok-zeros.zeros in
    let h = c.in_ok-code.ensures in
    let code = c.in_ok-code.code in
    let again = sym (c.is_again.ensures codes sees) ∙ c.if-is_again.false in
    code_there c.args.limits order c.args.end codes c.args.offset c.args.bytes.now n c.in_ok-zeros.ensures.gives c.rest_after.result.now c.rest_after.ensures c.if-limits-lt2.false code
    ((h.0, number_taken order 1 c.args.end (seen_row codes) (c.args.offset + n) c.rest_after.result.now c.in_ok-code.code h.0 h.1 (h.2 order) (code_new codes (c.args.offset + n + 1) c.in_ok-code.code c.if-code-eq0.false again))) c.if-limits-lt3.false

pub returns-clause-once : goal.returns-clause-once
returns-clause-once c = λ codes sees. sym (c.is_again.ensures codes sees) ∙ c.if-is_again.false
