use Rattle.std.proofs.Common.{◌≡◌, ◌+◌, ◌-◌, ◌%◌, List, ℕ, length, take, drop, sym, subst, ◌∙◌, arith}
use Rattle.dbus_value_validator.specs.Endings.{AreNoted}
use Rattle.dbus_value_checker.specs.declared.values.Doing.{Doing}
use Rattle.dbus_value_checker.specs.Denotations.{Goes, Wants, after_piece, denotes}
use Rattle.dbus_value_checker.proofs.FrameLaws.{inner_of, frame_within}
use Rattle.dbus_value_checker.proofs.WholeValues.{booleans_go, read_goes, type_noted, types_are}
use Rattle.dbus_value_checker.proofs.values.ValueChecker.whole.Goals.{else-loop-after-test, then-loop-after-test+in_default-one_value-2, then-loop-after-test+in_default-one_value, then-loop-after-test+in-Some+then-not-self, then-before-after, else-before-after}
use Rattle.dbus_value_checker.proofs.values.ValueChecker.whole.Goals as goal

pub overflow_add-before : goal.overflow_add-before
overflow_add-before c =
    let x = c.args.self.now in
    let w : Wants x c.in-Wanted.pos c.in-Wanted.stop c.requires.valid.0 = subst (λ (d : Doing). denotes d x c.requires.valid.0) c.in-Wanted.is c.requires.valid.1 in
    let low = (inner_of x _ w.ws w.frames).low in
    let near = (frame_within _ x.offset (length x.text.items) x.end x.text.items x.inner _ w.ws w.frames).2 in
    omega arith

pub one_value-requires-clause-noted : goal.one_value-requires-clause-noted
one_value-requires-clause-noted c =
    let x = c.args.self.now in
    let pos = c.in-Wanted.pos in
    let stop = c.in-Wanted.stop in
    let w : Wants x pos stop c.requires.valid.0 = subst (λ (d : Doing). denotes d x c.requires.valid.0) c.in-Wanted.is c.requires.valid.1 in
    let noted = subst (λ (ts : List ℕ). AreNoted ts x.lengths.items pos) (types_are x.text.items pos stop w.pos_is) (type_noted x.text.items x.lengths.items pos stop w.type_noted) in
    subst (λ (l : List ℕ). AreNoted (take (stop - pos) (drop pos l)) c.as_slice.result.now pos) (sym c.as_slice-2.ensures.value)
    (subst (λ (l : List ℕ). AreNoted (take (stop - pos) (drop pos x.text.items)) l pos) (sym c.as_slice.ensures.value) noted)

pub loop-after-preserved : goal.loop-after-preserved
loop-after-preserved c = record {
  low = omega arith;
  high = omega (arith, (c.in-Some.ensures.moves).1);
  goes = λ answer h some.
      let x = c.args.self.now in
      let w : Wants x c.in-Wanted.pos c.in-Wanted.stop answer = subst (λ (d : Doing). denotes d x answer) c.in-Wanted.is h in
      let ends = c.min-end.ensures in (
        c.if-not-self.false,
        read_goes x answer c.args.bytes.now c.args.n (λ i. omega (arith, c.type_inv.bytes i)) c.in-Wanted.pos c.in-Wanted.stop c.loop-after.after c.min-end.result c.in-Some.next c.as_slice-2.result.now c.as_slice-2.ensures.value w
            (omega (arith, c.if-n-before.false)) c.loop-after.invariant.low (c.loop-after.invariant.goes answer h) c.loop-after-test.true c.if-after-next.true (omega (arith, ends)) (omega (arith, ends)) c.in-Some.ensures.gives,
      );
}

pub returns-clause-goes : goal.returns-clause-goes
returns-clause-goes c = λ answer h.
    let x = c.args.self.now in
    let bytes = c.args.bytes.now in
    let n = c.args.n in
    let loop = c.loop-after in
    let Went : ℕ → Type 0 = λ after. Goes (record x { offset = x.offset + (after - x.offset % 8) }) (after_piece answer (take (after - x.offset % 8) (drop n bytes))) in
    let kept : c.loop-after-test.after ≡ loop.after → Went c.loop-after-test.after =
    λ e. subst Went (sym e) (loop.invariant.goes answer h (omega (arith, e, c.if-after-before.false, loop.invariant.low))).1 in
    elim c.loop-after-test.branch [
      | else-loop-after-test w ↦ kept w.after-is
      | then-loop-after-test+in_default-one_value-2 w ↦ kept w.after-is
      | then-loop-after-test+in_default-one_value w ↦ kept w.after-is
      | then-loop-after-test+in-Some+then-not-self w ↦
          let v : Wants x c.in-Wanted.pos c.in-Wanted.stop answer = subst (λ (d : Doing). denotes d x answer) c.in-Wanted.is h in
          let ends = c.min-end.ensures in
          subst Went (sym w.after-is)
          (read_goes x answer bytes n (λ i. omega (arith, c.type_inv.bytes i)) c.in-Wanted.pos c.in-Wanted.stop loop.after c.min-end.result w.in-Some.next c.as_slice-2.result.now c.as_slice-2.ensures.value v
          (omega (arith, c.if-n-before.false)) loop.invariant.low (loop.invariant.goes answer h) w.loop-after-test.true w.if-after-next.true (omega (arith, ends)) (omega (arith, ends)) w.in-Some.ensures.gives)
    ]

pub returns-then-gap-eq0-clause-goes : goal.returns-then-gap-eq0-clause-goes
returns-then-gap-eq0-clause-goes c =
    elim c.if-before-after.branch [
      | then-before-after w ↦
          rw w.result-is (λ answer h.
          let x = c.args.self.now in
          let v : Wants x c.in-Wanted.pos c.in-Wanted.stop answer = subst (λ (d : Doing). denotes d x answer) c.in-Wanted.is h in
          let ends = c.min-end.ensures in
          let words = c.booleans_end-after.ensures in
          booleans_go x answer c.args.bytes.now c.args.n (λ i. omega (arith, c.type_inv.bytes i)) c.in-Wanted.pos c.in-Wanted.stop c.min-end.result c.booleans_end-after.result c.as_slice-2.result.now c.as_slice-2.ensures.value v c.if-self.true c.if-types-eq98.true
          (omega (arith, c.if-n-before.false)) (sym c.gap.ensures ∙ c.if-gap-eq0.true) (omega (arith, ends)) (omega (arith, ends)) words.moves.1 words.few words.whole w.if-before-after.true)
      | else-before-after w ↦ rw w.result-is tt
    ]
