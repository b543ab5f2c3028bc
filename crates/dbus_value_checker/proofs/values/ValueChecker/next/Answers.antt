use Rattle.std.proofs.Common.{◌≡◌, ◌≤◌, length, arith, refl, sym, subst, inl, inr}
use Rattle.dbus_value_checker.specs.declared.values.ValueChecker.{ValueChecker}
use Rattle.dbus_value_checker.specs.Denotations.{Wants}
use Rattle.dbus_value_checker.proofs.FrameLaws.{inner_of}
use Rattle.dbus_value_checker.proofs.NextValues.{IsOver, next_part, next_popped, next_last, wants_doing}
use Rattle.dbus_value_checker.proofs.values.ValueChecker.next.Goals.{then-self+else-self-2, else-self+else-self-3}
use Rattle.dbus_value_checker.proofs.values.ValueChecker.next.Goals as goal

pub loop-self-preserved : goal.loop-self-preserved
loop-self-preserved c =
    let x = c.loop-self.self in
    let over : IsOver x = elim c.if-self.branch [ then-self+else-self-2 w ↦ inl (w.if-self.true, w.if-self-2.false) | else-self+else-self-3 w ↦ inr (w.if-self.false, w.if-self-3.false) ] in
    let s = c.loop-self.invariant.some in
    record {
      some = (s.0, next_popped x _ s.0 s.1 over (record { bounds = refl; order = refl; end = refl; offset = refl; text = refl; lengths = refl; inner = refl; frames = c.in-Some.ensures.items }));
      goes = λ answer g. next_popped x _ answer (c.loop-self.invariant.goes answer g) over (record { bounds = refl; order = refl; end = refl; offset = refl; text = refl; lengths = refl; inner = refl; frames = c.in-Some.ensures.items });
    }

pub returns-then-self-2 : goal.returns-then-self-2
returns-then-self-2 c = λ answer g. c.element-self.ensures answer (c.loop-self.invariant.goes answer g)

pub returns-then-self-3 : goal.returns-then-self-3
returns-then-self-3 c = λ answer g.
    let x = c.loop-self.self in
    let w = c.loop-self.invariant.goes answer g in
    let i = inner_of x x.offset w.ws w.frames in
    let le : x.inner.stop ≤ length x.text.items = (let a = i.stop in let b = i.high in omega arith) in
    let q = c.part-stop.result in
    wants_doing c.part-stop.new.self x.inner.pos q x.inner.pos q answer
    (subst (λ (y : ValueChecker). Wants y x.inner.pos q answer) (sym c.part-stop.ensures.moved) (next_part x answer q c.part-stop.ensures.value w c.if-self.false c.if-self-3.true le))

pub returns-in-None : goal.returns-in-None
returns-in-None c = λ answer g.
    let x = c.loop-self.self in
    let over : IsOver x = elim c.if-self.branch [ then-self+else-self-2 w ↦ inl (w.if-self.true, w.if-self-2.false) | else-self+else-self-3 w ↦ inr (w.if-self.false, w.if-self-3.false) ] in
    let none : length x.frames.items ≡ 0 = grind arith in
    next_last x answer (c.loop-self.invariant.goes answer g) over none
