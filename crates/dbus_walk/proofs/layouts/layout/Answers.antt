use Rattle.std.proofs.Common.{◌<◌, ◌+◌, ◌∙◌, arith, inr}
use Rattle.dbus_types.proofs.TypeCodes.{code_is}
use Rattle.dbus_value_model.specs.Values.{type_of}
use Rattle.dbus_value_model.proofs.Periods.{no_gap}
use Rattle.dbus_walk.specs.Containers.{number_width}
use Rattle.dbus_walk.proofs.Enclosed.{enclosed_within, struct_left}
use Rattle.dbus_walk.proofs.Laid.{number_laid, text_laid, struct_laid, entry_laid}
use Rattle.dbus_walk.proofs.Parts.{enclosed_is, number_stands, short_stands, short_counts}
use Rattle.dbus_walk.proofs.layouts.layout.Goals as goal

pub overflow_add-result : goal.overflow_add-result
overflow_add-result c =
    let p = number_stands c.requires.stands.2 c.number_width-size.result c.if-size-gt0.true c.number_width-size.ensures.value in
    omega (arith, p.inside, c.number_gap.ensures)

pub returns-then-size-gt0 : goal.returns-then-size-gt0
returns-then-size-gt0 c = λ v rest s.
    number_laid c.args.source.now c.args.spot.now v rest s c.number_width-size.result (c.args.spot.now.at + c.number_gap.result) c.if-size-gt0.true c.number_width-size.ensures.value (omega (arith, c.number_gap.ensures))

pub bounds-source-spot : goal.bounds-source-spot
bounds-source-spot c = let is = short_counts c.requires.stands.2 (short_stands c.requires.stands.2 c.in-103.is) in omega (arith, is.1)

pub returns-in-103 : goal.returns-in-103
returns-in-103 c = λ v rest s.
    let p = short_stands s c.in-103.is in
    text_laid c.args.source.now c.args.spot.now v rest s 1 c.args.spot.now.at _ p (omega (arith, no_gap c.args.spot.now.at)) (c.from.ensures ∙ (short_counts s p).0)

pub returns-in-97 : goal.returns-in-97
returns-in-97 c = λ v rest s. c.array.ensures v rest s

pub overflow_add-result-in-123 : goal.overflow_add-result-in-123
overflow_add-result-in-123 c = omega (arith, enclosed_within c.requires.stands.2 (inr c.in-123.is), c.parts_gap.ensures)

pub returns-in-123 : goal.returns-in-123
returns-in-123 c = λ v rest s.
    entry_laid c.args.source.now c.args.spot.now v rest s (c.args.spot.now.at + c.parts_gap.result) c.in-123.is (omega (arith, c.parts_gap.ensures))

pub overflow_add-result-in_default : goal.overflow_add-result-in_default
overflow_add-result-in_default c =
    let s = c.requires.stands.2 in
    let type = type_of c.requires.stands.0 in
    let code = code_is type c.args.spot.now.types.now s.text in
    let none : 0 < number_width type → ⊥ = λ some. omega (arith, some, c.if-size-gt0.false, c.number_width-size.ensures.value type code) in
    let not = c.in_default in
    let enclosed = enclosed_is type code none (λ e. omega (arith, not, e)) (λ e. omega (arith, not, e)) (λ e. omega (arith, not, e)) (λ e. omega (arith, not, e)) (λ e. omega (arith, not, e)) in
    omega (arith, enclosed_within s enclosed, c.parts_gap-in_default.ensures)

pub returns-in_default : goal.returns-in_default
returns-in_default c = λ v rest s.
    let type = type_of v in
    let code = code_is type c.args.spot.now.types.now s.text in
    let none : 0 < number_width type → ⊥ = λ some. omega (arith, some, c.if-size-gt0.false, c.number_width-size.ensures.value type code) in
    let not = c.in_default in
    let enclosed = enclosed_is type code none (λ e. omega (arith, not, e)) (λ e. omega (arith, not, e)) (λ e. omega (arith, not, e)) (λ e. omega (arith, not, e)) (λ e. omega (arith, not, e)) in
    struct_laid c.args.source.now c.args.spot.now v rest s (c.args.spot.now.at + c.parts_gap-in_default.result) (struct_left enclosed (λ e. omega (arith, not, e))) (omega (arith, c.parts_gap-in_default.ensures))
