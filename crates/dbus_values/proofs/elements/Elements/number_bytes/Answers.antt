use Rattle.std.proofs.Common.{◌≡◌, ℕ, ◌+◌, ◌-◌, ◌<◌, List, refl, get_or, length, take, drop, sym, ap, subst, ◌∙◌, arith}
use Rattle.dbus_texts.specs.Types.{NumberType}
use Rattle.dbus_texts.proofs.TypeTexts.{sig_positive}
use Rattle.dbus_types.proofs.TypeCodes.{code_is}
use Rattle.dbus_value_model.specs.Bytes.{gap_to}
use Rattle.dbus_values.specs.States.{ElementsState, ElementsAreLeft, AreNumbersIn}
use Rattle.dbus_walk.proofs.Lists.{no_elements}
use Rattle.dbus_value_laws.proofs.ValueItemLaws.{width_positive}
use Rattle.dbus_values.proofs.NumberRuns.{elements_within, numbers_in, none_in}
use Rattle.dbus_values.proofs.elements.Elements.number_bytes.Goals as goal

pub bounds-self-inside-0 : goal.bounds-self-inside-0
bounds-self-inside-0 c = let l = c.self.invariant.3 in omega (arith, ap length l.text, sig_positive l.type)

pub returns-then-width-eq0 : goal.returns-then-width-eq0
returns-then-width-eq0 c = λ xs rest l k typed.
    let coded = ap (λ (s : ElementsState). get_or s.type 0 0) c.self.view_is ∙ ap (λ (t : List ℕ). get_or t 0 0) typed in
    omega (arith, width_positive k, c.if-width-eq0.true, c.number_width-width.ensures.value (NumberType k) (sym coded))

pub returns-then-self : goal.returns-then-self
returns-then-self c = λ xs rest l.
    let is = c.self.view_is in
    let ended = ap (λ (s : ElementsState). s.at) (sym is) ∙ c.if-self.true ∙ ap (λ (s : ElementsState). s.end) is in
    let some : 0 < c.number_width-width.result = omega (arith, c.if-width-eq0.false) in
    none_in l c.number_width-width.result some (c.number_width-width.ensures.value l.type (code_is l.type c.args.self.now.type l.text ∙ ap (λ (s : ElementsState). get_or s.type 0 0) (sym is))) (no_elements xs l (omega (arith, ended)))

pub overflow_add-start : goal.overflow_add-start
overflow_add-start c =
    let l = c.self.invariant.3 in
    let some : 0 < c.number_width-width.result = omega (arith, c.if-width-eq0.false) in
    omega (arith, (numbers_in c.self.invariant.1 l c.number_width-width.result some (c.number_width-width.ensures.value l.type (code_is l.type c.self.inside.element.now l.text)) c.if-self.false _ refl).0, c.gap.ensures)

pub slice_bounds-result-count : goal.slice_bounds-result-count
slice_bounds-result-count c =
    let l = c.self.invariant.3 in
    let some : 0 < c.number_width-width.result = omega (arith, c.if-width-eq0.false) in
    omega (arith, (numbers_in c.self.invariant.1 l c.number_width-width.result some (c.number_width-width.ensures.value l.type (code_is l.type c.self.inside.element.now l.text)) c.if-self.false _ refl).0, c.gap.ensures, elements_within l)

pub slice_bounds-result-start : goal.slice_bounds-result-start
slice_bounds-result-start c =
    let l = c.self.invariant.3 in
    let some : 0 < c.number_width-width.result = omega (arith, c.if-width-eq0.false) in
    omega (arith, (numbers_in c.self.invariant.1 l c.number_width-width.result some (c.number_width-width.ensures.value l.type (code_is l.type c.self.inside.element.now l.text)) c.if-self.false _ refl).0, c.gap.ensures, elements_within l)

pub slice_bounds-result-end-2 : goal.slice_bounds-result-end-2
slice_bounds-result-end-2 c =
    let l = c.self.invariant.3 in
    let some : 0 < c.number_width-width.result = omega (arith, c.if-width-eq0.false) in
    omega (arith, (numbers_in c.self.invariant.1 l c.number_width-width.result some (c.number_width-width.ensures.value l.type (code_is l.type c.self.inside.element.now l.text)) c.if-self.false _ refl).0, c.gap.ensures, elements_within l)

pub returns : goal.returns
returns c = λ xs rest l.
    let s = c.self.inside in
    let e : ElementsState = record { order = s.source.order; bytes = s.source.bytes.now; at = s.at; end = s.end; type = s.element.now; depth_left = s.depth_left } in
    let here = subst (λ (u : ElementsState). ElementsAreLeft u xs rest) (sym c.self.view_is) l in
    let some : 0 < c.number_width-width.result = omega (arith, c.if-width-eq0.false) in
    let place : s.at + c.gap.result ≡ s.at + gap_to c.number_width-width.result s.at = omega (arith, c.gap.ensures) in
    let numbers = numbers_in xs here c.number_width-width.result some (c.number_width-width.ensures.value here.type (code_is here.type s.element.now here.text)) c.if-self.false (s.at + c.gap.result) place in
    subst (λ (u : ElementsState). AreNumbersIn u.order u.type xs (take (s.end - (s.at + c.gap.result)) (drop (s.at + c.gap.result) s.source.bytes.now))) c.self.view_is numbers.1
