use Rattle.std.proofs.Common.{length, arith, ap, ◌∙◌}
use Rattle.std.proofs.lemmas.List.{length-drop}
use Rattle.dbus_value_checker.proofs.PaddedValues.{wants_low, wants_ready, wants_stops}
use Rattle.dbus_value_checker.proofs.Calls.{wants_code, after_ok, after_err}
use Rattle.dbus_value_checker.proofs.values.ValueChecker.value.Goals as goal

pub bounds-as_slice-pos : goal.bounds-as_slice-pos
bounds-as_slice-pos c =
    let b = wants_code c.args.self.now c.args.pos c.args.stop c.requires.valid.0 c.requires.valid.1 in
    let l = ap length c.as_slice.ensures.value in
    omega arith

pub padding-requires-clause-at_most : goal.padding-requires-clause-at_most
padding-requires-clause-at_most c = wants_low c.args.self.now c.args.pos c.args.stop c.requires.valid.0 c.requires.valid.1 c.as_slice.result.now c.as_slice.ensures.value

pub item-requires-clause-valid : goal.item-requires-clause-valid
item-requires-clause-valid c =
    let a = c.args in let m = c.in-Ok.ensures in
    (_, wants_ready a.self.now a.pos a.stop c.requires.valid.0 c.requires.valid.1 c.as_slice.result.now c.as_slice.ensures.value c.boundary.result c.boundary.ensures.value a.bytes.now c.in-Ok.n m.gives m.moves.1)

pub returns-in-Ok-item-clause-moves : goal.returns-in-Ok-item-clause-moves
returns-in-Ok-item-clause-moves c = λ answer w.
    let a = c.args in let m = c.in-Ok.ensures in
    after_ok a.self.now c.item.new.self a.bytes.now c.in-Ok.n answer c.rest_after.result.now c.rest_after.ensures m.moves.2 c.in-Ok-item.more
    (c.in-Ok-item.ensures.moves _ (wants_ready a.self.now a.pos a.stop answer w c.as_slice.result.now c.as_slice.ensures.value c.boundary.result c.boundary.ensures.value a.bytes.now c.in-Ok.n m.gives m.moves.1))

pub returns-in-Err-item-clause-moves : goal.returns-in-Err-item-clause-moves
returns-in-Err-item-clause-moves c = λ answer w.
    let a = c.args in let m = c.in-Ok.ensures in
    after_err a.self.now c.item.new.self a.bytes.now c.in-Ok.n answer c.rest_after.result.now c.rest_after.ensures c.in-Err-item.stop
    (c.in-Err-item.ensures.moves _ (wants_ready a.self.now a.pos a.stop answer w c.as_slice.result.now c.as_slice.ensures.value c.boundary.result c.boundary.ensures.value a.bytes.now c.in-Ok.n m.gives m.moves.1))

pub returns-in-Err-clause-moves : goal.returns-in-Err-clause-moves
returns-in-Err-clause-moves c = λ answer w.
    let a = c.args in
    wants_stops a.self.now a.pos a.stop answer w c.as_slice.result.now c.as_slice.ensures.value c.boundary.result c.boundary.ensures.value a.bytes.now c.in-Err.stop c.in-Err.ensures.gives

pub overflow_add-result : goal.overflow_add-result
overflow_add-result c =
    let a = c.args in let m = c.in-Ok.ensures in
    let more = (c.in-Ok-item.ensures.moves _ (wants_ready a.self.now a.pos a.stop c.requires.valid.0 c.requires.valid.1 c.as_slice.result.now c.as_slice.ensures.value c.boundary.result c.boundary.ensures.value a.bytes.now c.in-Ok.n m.gives m.moves.1)).0 in
    let l = ap length c.rest_after.ensures ∙ length-drop c.in-Ok.n a.bytes.now in
    omega arith

pub returns-in-Err-item-clause-short : goal.returns-in-Err-item-clause-short
returns-in-Err-item-clause-short c = λ e.
    let short = c.in-Err-item.ensures.short e in
    let l = ap length c.rest_after.ensures ∙ length-drop c.in-Ok.n c.args.bytes.now in
    let n = c.in-Ok.ensures.moves.3 in
    omega arith
