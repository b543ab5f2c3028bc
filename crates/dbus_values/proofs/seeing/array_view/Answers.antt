use Rattle.std.proofs.Common.{◌≡◌, ◌-◌, length, drop, sym, ap, subst, ◌∙◌, arith}
use Rattle.std.proofs.lemmas.List.{length-take}
use Rattle.dbus_texts.specs.Types.{BYTE, NumberType}
use Rattle.dbus_walk.specs.Containers.{number_width}
use Rattle.dbus_values.proofs.NumberRuns.{elements_within}
use Rattle.dbus_values.proofs.Views.{array_type, array_of_bytes}
use Rattle.dbus_values.specs.States.{ElementsState, ElementsAreLeft}
use Rattle.dbus_values.proofs.seeing.array_view.Goals as goal

pub slice_bounds-result-count : goal.slice_bounds-result-count
slice_bounds-result-count c = let s = c.requires.stands in omega (arith, elements_within (c.requires.laid s.0 s.1 s.2).held)

pub slice_bounds-result-start : goal.slice_bounds-result-start
slice_bounds-result-start c = let s = c.requires.stands in omega (arith, elements_within (c.requires.laid s.0 s.1 s.2).held)

pub slice_bounds-result-end : goal.slice_bounds-result-end
slice_bounds-result-end c = let s = c.requires.stands in omega (arith, elements_within (c.requires.laid s.0 s.1 s.2).held)

pub returns-then-run-eq1-clause-seen : goal.returns-then-run-eq1-clause-seen
returns-then-run-eq1-clause-seen c = λ v rest s. array_of_bytes c.args.source.now c.args.spot.now v rest s _ (c.requires.laid v rest s) c.if-run-eq1.true

pub overflow_sub-spot : goal.overflow_sub-spot
overflow_sub-spot c = let s = c.requires.stands in omega (arith, (c.requires.laid s.0 s.1 s.2).some)

pub new-requires : goal.new-requires
new-requires c =
    let s = c.requires.stands in
    let p = c.requires.laid s.0 s.1 s.2 in
    (omega (arith, c.requires.few, length-take (length c.args.spot.now.types.now - 1) (drop 1 c.args.spot.now.types.now)), p.xs, s.1, p.held)

pub returns-clause-seen : goal.returns-clause-seen
returns-clause-seen c = λ v rest s.
    let p = c.requires.laid v rest s in
    let other = λ (byte : p.type ≡ NumberType BYTE). c.if-run-eq1.false (sym p.wide ∙ ap number_width byte) in
    (p.type, p.xs, rest, p.is, other, array_type c.args.source.now c.args.spot.now v rest s p.type p.xs p.is ∙ ap (λ (l : ElementsState). l.type) (sym c.new.ensures), subst (λ (l : ElementsState). ElementsAreLeft l p.xs rest) (sym c.new.ensures) p.held)

pub returns-clause-parts : goal.returns-clause-parts
returns-clause-parts c = λ v rest s.
    let p = c.requires.laid v rest s in
    let is = c.new.ensures in
    (ap (λ (l : ElementsState). l.order) is, ap (λ (l : ElementsState). l.bytes) is, ap (λ (l : ElementsState). l.at) is ∙ p.begins, ap (λ (l : ElementsState). l.end) is ∙ p.ends)
