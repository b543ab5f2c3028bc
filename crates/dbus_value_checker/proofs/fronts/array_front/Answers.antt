use Rattle.std.proofs.Common.{◌+◌, length, arith, ap, ◌∙◌}
use Rattle.std.proofs.lemmas.List.{length-drop}
use Rattle.dbus_value_model.proofs.Periods.{gap_below}
use Rattle.dbus_value_checker.proofs.FrontSteps.{array_stop, array_too_long, array_past, array_there, array_padding}
use Rattle.dbus_value_checker.proofs.fronts.array_front.Goals as goal

pub overflow_add-gap : goal.overflow_add-gap
overflow_add-gap c =
    let g = c.gap.ensures in
    let few = gap_below c.boundary-boundary.result (c.args.offset + 4) c.boundary-boundary.ensures.some in
    let eight = c.boundary-boundary.ensures.few in
    omega arith

pub returns-in-Err-clause-gives : goal.returns-in-Err-clause-gives
returns-in-Err-clause-gives c = λ t e. array_stop c.args.bounds c.args.order c.args.end c.args.offset c.args.bytes.now t c.in-Err.stop c.in-Err.ensures

pub returns-then-n-bounds-clause-gives : goal.returns-then-n-bounds-clause-gives
returns-then-n-bounds-clause-gives c = λ t e.
    let a = c.args in let h = c.in-Ok.ensures in
    rw c.refuse.ensures (array_too_long a.bounds a.order a.end a.offset a.bytes.now t c.in-Ok.n h.0 h.1 h.2 (omega arith))

pub returns-then-end-offset-clause-gives : goal.returns-then-end-offset-clause-gives
returns-then-end-offset-clause-gives c = λ t e.
    let a = c.args in let h = c.in-Ok.ensures in let low = h.1 in let g = c.gap.ensures in
    rw c.refuse-then-end-offset.ensures (array_past a.bounds a.order a.end a.offset a.bytes.now t c.in-Ok.n h.0 h.1 h.2 (omega arith) c.boundary-boundary.result (c.boundary-boundary.ensures.value t e) (omega arith))

pub returns-in-Ok-padding-clause-gives : goal.returns-in-Ok-padding-clause-gives
returns-in-Ok-padding-clause-gives c = λ t e.
    let a = c.args in let h = c.in-Ok.ensures in let low = h.1 in let g = c.gap.ensures in
    array_there a.bounds a.order a.end a.offset a.bytes.now t c.in-Ok.n h.0 h.1 h.2 (omega arith) c.boundary-boundary.result (c.boundary-boundary.ensures.value t e) (omega arith) c.rest_after.result.now c.rest_after.ensures c.in-Ok-padding.zeros c.in-Ok-padding.ensures.gives

pub returns-in-Err-padding-clause-gives : goal.returns-in-Err-padding-clause-gives
returns-in-Err-padding-clause-gives c = λ t e.
    let a = c.args in let h = c.in-Ok.ensures in let low = h.1 in let g = c.gap.ensures in
    array_padding a.bounds a.order a.end a.offset a.bytes.now t c.in-Ok.n h.0 h.1 h.2 (omega arith) c.boundary-boundary.result (c.boundary-boundary.ensures.value t e) (omega arith) c.rest_after.result.now c.rest_after.ensures c.in-Err-padding.stop c.in-Err-padding.ensures.gives

pub returns-in-Err-padding-clause-short : goal.returns-in-Err-padding-clause-short
returns-in-Err-padding-clause-short c = λ e.
    let short = c.in-Err-padding.ensures.short e in
    let h = c.in-Ok.ensures.0 in
    let l = ap length c.rest_after.ensures ∙ length-drop 4 c.args.bytes.now in
    omega arith
