use Rattle.std.proofs.Common.{◌≡◌, ℕ, List, get_or, arith, ap, sym, ◌∙◌, subst}
use Rattle.dbus_value_model.specs.Bytes.{gap_to}
use Rattle.dbus_value_checker.proofs.ArrayRuns.{numbers_begin}
use Rattle.dbus_value_checker.proofs.NextValues.{next_element, wants_doing}
use Rattle.dbus_value_checker.proofs.values.ValueChecker.element.Goals as goal

pub returns-then-width-eq0 : goal.returns-then-width-eq0
returns-then-width-eq0 c = λ answer g.
    let x = c.args.self.now in
    wants_doing x x.inner.pos x.inner.stop x.inner.pos x.inner.stop answer (next_element x answer g c.requires.array c.requires.more)

pub returns : goal.returns
returns c = λ answer g.
    let x = c.args.self.now in
    let w = c.free_width-width.result in
    let same : c.from-2.result ≡ w = c.from-2.ensures in
    let aligned : gap_to w x.offset ≡ 0 = (let e = c.gap.ensures in let le = c.if-gap-gt0.false in omega arith) in
    let e = c.from.ensures in
    let le = c.if-self-from.false in
    let lt = c.requires.more in
    numbers_begin x _ answer (get_or c.as_slice.result.now x.inner.pos 0) c.from-2.result g c.requires.array (sym (ap (λ (t : List ℕ). get_or t x.inner.pos 0) c.as_slice.ensures.value)) (λ t e. same ∙ c.free_width-width.ensures.value t e) (omega arith)
    (subst (λ (v : ℕ). gap_to v x.offset ≡ 0) (sym same) aligned) (omega arith)
