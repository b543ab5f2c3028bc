use Rattle.std.proofs.Common.{◌≡◌, ℕ, ◌+◌, ◌-◌, ◌<◌, [], Some, None, length, take, drop, true, false, arith, refl, sym, ap, subst, ◌∙◌, lit<}
use Rattle.std.proofs.lemmas.Bool.{eqb-true, eqb-false, eq-eqb, ne_eqb}
use Rattle.std.proofs.lemmas.List.{length-take, length-drop, append-nil}
use Rattle.dbus_texts.specs.Types.{TypeTree, NumberType, BOOLEAN, NoTypes, MoreTypes, sig, IsShaped}
use Rattle.dbus_types.specs.Alignments.{alignment_of}
use Rattle.dbus_value_model.specs.Bytes.{gap_to}
use Rattle.dbus_value_model.specs.Reading.{padding, up_to, value}
use Rattle.dbus_value_model.specs.Values.{NoValues, MoreValues}
use Rattle.dbus_value_model.specs.ValueReaders.{array_value, struct_value, entry_value}
use Rattle.dbus_types.proofs.TypeCodes.{no_text_of, free_width_by, code_is, boolean_is, variant_is, array_is, struct_is, entry_is, entry_shaped}
use Rattle.dbus_value_model.proofs.FreeNumbers.{free_is}
use Rattle.dbus_value_validator.specs.Endings.{Answers, EndsAt}
use Rattle.dbus_value_validator.proofs.OpenStructs.{part_noted, first_front, all_left, left_ends, left_unread, less_left, struct_unread, structs_left, closed_left, structs_closed, basic_there, variant_there, array_there, struct_outside}
use Rattle.dbus_value_validator.proofs.NumberArrays.{free_elements, boolean_elements, words_begin}
use Rattle.dbus_value_validator.proofs.ReadParts.{not_first, answers_unmade}
use Rattle.dbus_value_validator.proofs.ValueSteps.{leads_all, leads_on, leads_end, lacks_element, lacks_end, too_deep, variant_too_deep, variant_unsigned, variant_answers, array_unframed, array_answers, entry_answers, as_variant, as_array, as_entry, free_value}
use Rattle.dbus_value_validator.proofs.values.+values.Goals.{array-then-depth_left-eq0-via-then-depth_left-eq0, array-then-depth_left-eq0-via-else-depth_left-eq0+then-is_empty}
use Rattle.dbus_value_validator.proofs.values.+values.Goals as goal

-- ---- values one after another

pub all_values-loop-first-init : goal.all_values-loop-first-init
all_values-loop-first-init t c = record {
  begun = omega arith;
  at_most = c.requires.at_most;
  within = omega arith;
  deep = omega arith;
  left = λ ts e shaped. all_left c.args.source.now c.args.end c.args.types.now ts c.args.at c.args.depth_left e shaped;
}

pub all_values-returns-then-depth-depth_left-clause-gives : goal.all_values-returns-then-depth-depth_left-clause-gives
unfolding struct_value
all_values-returns-then-depth-depth_left-clause-gives t c = λ ts e shaped.
    let source = c.args.source.now in
    let l = c.loop-first in
    struct_unread source c.args.end c.args.types.now ts c.args.at c.args.depth_left l.place l.first l.depth (omega arith) c.if-code-eq40.true (l.invariant.left ts e shaped) (λ inner.
    too_deep (c.args.depth_left - l.depth) _ (padding 8 c.args.end l.place (drop l.place source.bytes.now)) (omega arith))

pub all_values-returns-in_err-place-clause-gives : goal.all_values-returns-in_err-place-clause-gives
unfolding struct_value
all_values-returns-in_err-place-clause-gives t c = λ ts e shaped.
    let source = c.args.source.now in
    let l = c.loop-first in
    rw c.from_residual.ensures (
    struct_unread source c.args.end c.args.types.now ts c.args.at c.args.depth_left l.place l.first l.depth (omega arith) c.if-code-eq40.true (l.invariant.left ts e shaped) (λ inner.
    not_first (padding 8 c.args.end l.place (drop l.place source.bytes.now)) _ (c.padding.ensures.none c.in_err-place.was))
    )

pub all_values-loop-first-preserved-then-code-eq40 : goal.all_values-loop-first-preserved-then-code-eq40
all_values-loop-first-preserved-then-code-eq40 t c =
    let source = c.args.source.now in
    let l = c.loop-first in
    let moves = c.in_ok-place.ensures.moves in
    let more = c.repeats-more.ensures in
    record {
      begun = omega (arith, moves.0);
      at_most = moves.1;
      within = omega (arith, more.within);
      deep = omega (arith, more.at_most);
      left = λ ts e shaped.
          rw c.from-first.ensures (
          structs_left source c.args.end c.args.types.now ts c.args.at c.args.depth_left c.repeats-more.result l.place l.first l.depth c.in_ok-place.place more.some (λ k lt. more.same k lt ∙ c.if-code-eq40.true) more.within (omega (arith, more.at_most)) (l.invariant.left ts e shaped) c.in_ok-place.ensures.gives moves.0 moves.1
          );
    }

pub all_values-returns-then-depth-eq0-clause-gives : goal.all_values-returns-then-depth-eq0-clause-gives
all_values-returns-then-depth-eq0-clause-gives t c = λ ts e shaped.
    let l = c.loop-first in
    let closed = closed_left c.args.source.now c.args.end c.args.types.now ts c.args.at c.args.depth_left l.place l.first l.depth (omega arith) c.if-code-eq41.true l.invariant.deep (l.invariant.left ts e shaped) in
    absurd (omega (arith, closed.0))

pub all_values-loop-first-preserved-then-code-eq41 : goal.all_values-loop-first-preserved-then-code-eq41
all_values-loop-first-preserved-then-code-eq41 t c =
    let l = c.loop-first in
    let closed = c.repeats-closed.ensures in
    record {
      begun = l.invariant.begun;
      at_most = l.invariant.at_most;
      within = omega (arith, closed.within);
      deep = omega arith;
      left = λ ts e shaped.
          rw c.from-first-then-code-eq41.ensures (
          structs_closed c.args.source.now c.args.end c.args.types.now ts c.args.at c.args.depth_left c.repeats-closed.result l.place l.first l.depth (λ k lt. closed.same k lt ∙ c.if-code-eq41.true) closed.within l.invariant.deep (l.invariant.left ts e shaped)
          );
    }

pub all_values-array-requires : goal.all_values-array-requires
all_values-array-requires t c =
    let types = c.args.types.now in
    let first = c.loop-first.first in
    let k = c.end_of-next.result - first in
    let whole = take k (drop first types) in
    let within = c.end_of-next.ensures.within in
    let some = c.end_of-next.ensures.some in
    let size : length whole ≡ k = omega (arith, within, some, length-take k (drop first types), length-drop first types) in
    let long : length (take (length whole - 1) (drop 1 whole)) ≡ k - 1 = omega (arith, size, length-take (length whole - 1) (drop 1 whole), length-drop 1 whole) in
    let noted = part_noted types c.args.source.now.lengths.now c.args.pos c.requires.noted first k in
    (omega (arith, long, within, some), (c.loop-first.invariant.at_most, (c.requires.inside, (omega (arith, long, within, some, c.requires.near), part_noted whole c.args.source.now.lengths.now (c.args.pos + first) noted 1 (length whole - 1)))))

pub all_values-returns-in_err-place-2-clause-gives : goal.all_values-returns-in_err-place-2-clause-gives
all_values-returns-in_err-place-2-clause-gives t c = λ ts e shaped.
    let source = c.args.source.now in
    let l = c.loop-first in
    rw c.from_residual-in_err-place-2.ensures (
    left_unread source c.args.end c.args.types.now ts c.args.at c.args.depth_left l.place l.first l.depth (omega arith) (λ close. absurd (omega (arith, c.if-code-eq97.true))) (l.invariant.left ts e shaped) (λ u more is whole.
    let w = array_there c.args.types.now l.first (omega arith) c.if-code-eq97.true c.end_of-next.result u more is whole (c.end_of-next.ensures.value u more is) in
    as_array source.bounds source.order (c.args.depth_left - l.depth) c.args.end l.place source.bytes.now u None w.0 w.1 (c.in_err-place-2.ensures.gives w.0 w.2 w.3))
    )

pub all_values-loop-first-preserved-then-code-eq97 : goal.all_values-loop-first-preserved-then-code-eq97
all_values-loop-first-preserved-then-code-eq97 t c =
    let source = c.args.source.now in
    let l = c.loop-first in
    let moves = c.in_ok-place-2.ensures.moves in
    record {
      begun = omega (arith, moves.0);
      at_most = moves.1;
      within = c.end_of-next.ensures.within;
      deep = l.invariant.deep;
      left = λ ts e shaped.
          less_left source c.args.end c.args.types.now ts c.args.at c.args.depth_left l.place l.first l.depth (omega arith) (λ close. absurd (omega (arith, c.if-code-eq97.true))) (l.invariant.left ts e shaped) c.end_of-next.result c.in_ok-place-2.place (λ u more is whole.
          let ends = c.end_of-next.ensures.value u more is in
          let w = array_there c.args.types.now l.first (omega arith) c.if-code-eq97.true c.end_of-next.result u more is whole ends in
          (ends, as_array source.bounds source.order (c.args.depth_left - l.depth) c.args.end l.place source.bytes.now u (Some c.in_ok-place-2.place) w.0 w.1 (c.in_ok-place-2.ensures.gives w.0 w.2 w.3)));
    }

pub all_values-returns-in_err-place-3-clause-gives : goal.all_values-returns-in_err-place-3-clause-gives
all_values-returns-in_err-place-3-clause-gives t c = λ ts e shaped.
    let source = c.args.source.now in
    let l = c.loop-first in
    rw c.from_residual-in_err-place-3.ensures (
    left_unread source c.args.end c.args.types.now ts c.args.at c.args.depth_left l.place l.first l.depth (omega arith) (λ close. absurd (omega (arith, c.if-code-eq118.true))) (l.invariant.left ts e shaped) (λ u more is whole.
    as_variant source.bounds source.order (c.args.depth_left - l.depth) c.args.end l.place source.bytes.now u None (variant_there c.args.types.now l.first (omega arith) c.if-code-eq118.true u more is).0 c.in_err-place-3.ensures.gives)
    )

pub all_values-loop-first-preserved-then-code-eq118 : goal.all_values-loop-first-preserved-then-code-eq118
all_values-loop-first-preserved-then-code-eq118 t c =
    let source = c.args.source.now in
    let l = c.loop-first in
    let moves = c.in_ok-place-3.ensures.moves in
    record {
      begun = omega (arith, moves.0);
      at_most = moves.1;
      within = omega arith;
      deep = l.invariant.deep;
      left = λ ts e shaped.
          less_left source c.args.end c.args.types.now ts c.args.at c.args.depth_left l.place l.first l.depth (omega arith) (λ close. absurd (omega (arith, c.if-code-eq118.true))) (l.invariant.left ts e shaped) (l.first + 1) c.in_ok-place-3.place (λ u more is whole.
          let w = variant_there c.args.types.now l.first (omega arith) c.if-code-eq118.true u more is in
          (w.1, as_variant source.bounds source.order (c.args.depth_left - l.depth) c.args.end l.place source.bytes.now u (Some c.in_ok-place-3.place) w.0 c.in_ok-place-3.ensures.gives));
    }

pub all_values-returns-in_err-place-4-clause-gives : goal.all_values-returns-in_err-place-4-clause-gives
all_values-returns-in_err-place-4-clause-gives t c = λ ts e shaped.
    let source = c.args.source.now in
    let l = c.loop-first in
    rw c.from_residual-in_err-place-4.ensures (
    left_unread source c.args.end c.args.types.now ts c.args.at c.args.depth_left l.place l.first l.depth (omega arith) c.if-code-eq41.false (l.invariant.left ts e shaped) (λ u more is whole.
    let w = basic_there c.args.types.now l.first (omega arith) c.if-code-eq97.false c.if-code-eq40.false c.if-code-eq118.false u more is whole in
    free_value source c.args.end l.place 1 1 (c.args.depth_left - l.depth) u None (lit< tt) (free_width_by 121 1 refl u (w.0 ∙ c.if-code-eq121.true)) refl c.in_err-place-4.ensures.gives)
    )

pub all_values-loop-first-preserved-then-code-eq121 : goal.all_values-loop-first-preserved-then-code-eq121
all_values-loop-first-preserved-then-code-eq121 t c =
    let source = c.args.source.now in
    let l = c.loop-first in
    let moves = c.in_ok-place-4.ensures.moves in
    record {
      begun = omega (arith, moves.0);
      at_most = moves.1;
      within = omega arith;
      deep = l.invariant.deep;
      left = λ ts e shaped.
          less_left source c.args.end c.args.types.now ts c.args.at c.args.depth_left l.place l.first l.depth (omega arith) c.if-code-eq41.false (l.invariant.left ts e shaped) (l.first + 1) c.in_ok-place-4.place (λ u more is whole.
          let w = basic_there c.args.types.now l.first (omega arith) c.if-code-eq97.false c.if-code-eq40.false c.if-code-eq118.false u more is whole in
          (w.2, free_value source c.args.end l.place 1 1 (c.args.depth_left - l.depth) u (Some c.in_ok-place-4.place) (lit< tt) (free_width_by 121 1 refl u (w.0 ∙ c.if-code-eq121.true)) refl c.in_ok-place-4.ensures.gives));
    }

pub all_values-returns-in_err-place-5-clause-gives : goal.all_values-returns-in_err-place-5-clause-gives
all_values-returns-in_err-place-5-clause-gives t c = λ ts e shaped.
    let source = c.args.source.now in
    let l = c.loop-first in
    rw c.from_residual-in_err-place-5.ensures (
    left_unread source c.args.end c.args.types.now ts c.args.at c.args.depth_left l.place l.first l.depth (omega arith) c.if-code-eq41.false (l.invariant.left ts e shaped) (λ u more is whole.
    let w = basic_there c.args.types.now l.first (omega arith) c.if-code-eq97.false c.if-code-eq40.false c.if-code-eq118.false u more is whole in
    c.in_err-place-5.ensures.gives (c.args.depth_left - l.depth) u w.0 w.1)
    )

pub all_values-loop-first-preserved : goal.all_values-loop-first-preserved
all_values-loop-first-preserved t c =
    let source = c.args.source.now in
    let l = c.loop-first in
    let moves = c.in_ok-place-5.ensures.moves in
    record {
      begun = omega (arith, moves.0);
      at_most = moves.1;
      within = omega arith;
      deep = l.invariant.deep;
      left = λ ts e shaped.
          less_left source c.args.end c.args.types.now ts c.args.at c.args.depth_left l.place l.first l.depth (omega arith) c.if-code-eq41.false (l.invariant.left ts e shaped) (l.first + 1) c.in_ok-place-5.place (λ u more is whole.
          let w = basic_there c.args.types.now l.first (omega arith) c.if-code-eq97.false c.if-code-eq40.false c.if-code-eq118.false u more is whole in
          (w.2, c.in_ok-place-5.ensures.gives (c.args.depth_left - l.depth) u w.0 w.1));
    }

pub all_values-returns-clause-gives : goal.all_values-returns-clause-gives
all_values-returns-clause-gives t c = λ ts e shaped.
    let l = c.loop-first in
    left_ends c.args.source.now c.args.end c.args.types.now ts c.args.at c.args.depth_left l.place l.first l.depth (omega arith) (l.invariant.left ts e shaped)

pub one_value-returns-then-code-eq40-clause-gives : goal.one_value-returns-then-code-eq40-clause-gives
one_value-returns-then-code-eq40-clause-gives t c = λ u e shaped.
    let source = c.args.source.now in
    let w = struct_is u c.args.types.now e c.if-code-eq40.true in
    let one = subst (λ (v : TypeTree). IsShaped true v → IsShaped false v) (sym w.1) (struct_outside w.0) shaped in
    answers_unmade source.bytes.now c.all_values.result (value source.bounds source.order c.args.depth_left c.args.end u c.args.at (drop c.args.at source.bytes.now)) (λ x. MoreValues x NoValues)
    (c.all_values.ensures.gives (MoreTypes u NoTypes) (append-nil (sig u) ∙ e) (one, tt))

-- ---- arrays

pub array-returns-then-depth_left-eq0-clause-gives : goal.array-returns-then-depth_left-eq0-clause-gives
unfolding array_value
array-returns-then-depth_left-eq0-clause-gives t c = λ u e shaped.
    elim c.then-depth_left-eq0.branch [
      | array-then-depth_left-eq0-via-then-depth_left-eq0 w ↦ too_deep c.args.depth_left _ (padding 4 c.args.end c.args.at (drop c.args.at c.args.source.now.bytes.now)) w.if-depth_left-eq0.true
      | array-then-depth_left-eq0-via-else-depth_left-eq0+then-is_empty w ↦ absurd (no_text_of u c.args.types.now e (eqb-true (length c.args.types.now) 0 (sym w.is_empty.ensures ∙ w.if-is_empty.true)))
    ]

pub array-returns-in_err-start-clause-gives : goal.array-returns-in_err-start-clause-gives
unfolding array_value
array-returns-in_err-start-clause-gives t c = λ u e shaped. rw c.from_residual.ensures (not_first (padding 4 c.args.end c.args.at (drop c.args.at c.args.source.now.bytes.now)) _ (c.padding.ensures.none c.in_err-start.was))

pub array-returns-in_err-n-clause-gives : goal.array-returns-in_err-n-clause-gives
array-returns-in_err-n-clause-gives t c = λ u e shaped.
    let source = c.args.source.now in
    let bounded = c.boundary.ensures.value u (code_is u c.args.types.now e) in
    rw c.from_residual-in_err-n.ensures (array_unframed source.bounds source.order c.args.depth_left c.args.end c.args.at source.bytes.now c.in_ok-start.start c.in_ok-start.ensures.gives (omega arith) u (c.frame.ensures.none c.in_err-n.was u bounded))

pub array-returns-then-n-from-eq0-clause-gives : goal.array-returns-then-n-from-eq0-clause-gives
array-returns-then-n-from-eq0-clause-gives t c = λ u e shaped.
    let source = c.args.source.now in
    let code = code_is u c.args.types.now e in
    let bounded = c.boundary.ensures.value u code in
    let free = free_is u c.free_width-width.result c.if-width-gt0.true (c.free_width-width.ensures.value u code) in
    let wide : c.boundary.result ≡ c.free_width-width.result = bounded ∙ ap alignment_of free.is ∙ free.wide in
    array_answers source.bounds source.order c.args.depth_left c.args.end c.args.at source.bytes.now c.in_ok-start.start c.in_ok-start.ensures.gives (omega arith) u c.in_ok-n.n c.in_ok-n.first (c.in_ok-n.ensures.gives u bounded) (Some (c.in_ok-n.first + c.in_ok-n.n))
    (free_elements source.bounds source.order (c.args.depth_left - 1) u c.free_width-width.result c.in_ok-n.n (c.in_ok-start.start + 4) c.in_ok-n.first source.bytes.now true c.if-width-gt0.true free (rw (← c.from.ensures) (eq-eqb _ 0 c.if-n-from-eq0.true)) (rw (← wide) c.in_ok-n.ensures.begins) (omega (arith, c.in_ok-n.ensures.fits)))

pub array-returns-else-n-from-eq0-clause-gives : goal.array-returns-else-n-from-eq0-clause-gives
array-returns-else-n-from-eq0-clause-gives t c = λ u e shaped.
    let source = c.args.source.now in
    let code = code_is u c.args.types.now e in
    let bounded = c.boundary.ensures.value u code in
    let free = free_is u c.free_width-width.result c.if-width-gt0.true (c.free_width-width.ensures.value u code) in
    let wide : c.boundary.result ≡ c.free_width-width.result = bounded ∙ ap alignment_of free.is ∙ free.wide in
    array_answers source.bounds source.order c.args.depth_left c.args.end c.args.at source.bytes.now c.in_ok-start.start c.in_ok-start.ensures.gives (omega arith) u c.in_ok-n.n c.in_ok-n.first (c.in_ok-n.ensures.gives u bounded) None
    (free_elements source.bounds source.order (c.args.depth_left - 1) u c.free_width-width.result c.in_ok-n.n (c.in_ok-start.start + 4) c.in_ok-n.first source.bytes.now false c.if-width-gt0.true free (rw (← c.from.ensures) (ne_eqb _ 0 c.if-n-from-eq0.false)) (rw (← wide) c.in_ok-n.ensures.begins) (omega (arith, c.in_ok-n.ensures.fits)))

pub array-booleans_end-requires-clause-begins : goal.array-booleans_end-requires-clause-begins
array-booleans_end-requires-clause-begins t c = words_begin (c.in_ok-start.start + 4) c.in_ok-n.first c.boundary.result (c.boundary.ensures.value (NumberType BOOLEAN) (sym c.if-code-eq98.true)) c.in_ok-n.ensures.begins

pub array-returns-then-booleans_end-after-clause-gives : goal.array-returns-then-booleans_end-after-clause-gives
array-returns-then-booleans_end-after-clause-gives t c = λ u e shaped.
    let source = c.args.source.now in
    let n = c.in_ok-n.n in
    let first = c.in_ok-n.first in
    let code = code_is u c.args.types.now e in
    let bounded = c.boundary.ensures.value u code in
    let is = boolean_is u (code ∙ c.if-code-eq98.true) in
    let begins = words_begin (c.in_ok-start.start + 4) first c.boundary.result (bounded ∙ ap alignment_of is) c.in_ok-n.ensures.begins in
    array_answers source.bounds source.order c.args.depth_left c.args.end c.args.at source.bytes.now c.in_ok-start.start c.in_ok-start.ensures.gives (omega arith) u n first (c.in_ok-n.ensures.gives u bounded) (Some (first + n))
    (rw is (boolean_elements source.bounds source.order (c.args.depth_left - 1) n first source.bytes.now begins (subst (λ (q : ℕ). gap_to 4 q ≡ 0) c.if-booleans_end-after.true c.booleans_end.ensures.whole) (omega (arith, c.in_ok-n.ensures.fits)) (λ p from h le. c.booleans_end.ensures.few p from h (omega (arith, c.if-booleans_end-after.true, le)))))

pub array-returns-then-n-eq0-clause-gives : goal.array-returns-then-n-eq0-clause-gives
array-returns-then-n-eq0-clause-gives t c = λ u e shaped.
    let source = c.args.source.now in
    let bytes = source.bytes.now in
    let n = c.in_ok-n.n in
    let first = c.in_ok-n.first in
    let part = value source.bounds source.order (c.args.depth_left - 1) (first + n) u in
    let bounded = c.boundary.ensures.value u (code_is u c.args.types.now e) in
    let over : first + n ≡ first = omega (arith, c.if-n-eq0.true) in
    array_answers source.bounds source.order c.args.depth_left c.args.end c.args.at bytes c.in_ok-start.start c.in_ok-start.ensures.gives (omega arith) u n first (c.in_ok-n.ensures.gives u bounded) (Some first)
    (subst (λ (q : ℕ). EndsAt bytes q (up_to n (first + n) (λ before. part) [] first (drop first bytes))) over (leads_end part bytes n (first + n) first n first (leads_all part bytes n (first + n) first n refl) (sym over)))

pub array-returns-then-wants_lengths-clause-gives : goal.array-returns-then-wants_lengths-clause-gives
array-returns-then-wants_lengths-clause-gives t c = λ u e shaped.
    let source = c.args.source.now in
    let bounded = c.boundary.ensures.value u (code_is u c.args.types.now e) in
    array_answers source.bounds source.order c.args.depth_left c.args.end c.args.at source.bytes.now c.in_ok-start.start c.in_ok-start.ensures.gives (omega arith) u c.in_ok-n.n c.in_ok-n.first (c.in_ok-n.ensures.gives u bounded) c.noted_elements.result (c.noted_elements.ensures.gives u e shaped)

pub array-returns-clause-gives : goal.array-returns-clause-gives
array-returns-clause-gives t c = λ u e shaped.
    let source = c.args.source.now in
    let bounded = c.boundary.ensures.value u (code_is u c.args.types.now e) in
    array_answers source.bounds source.order c.args.depth_left c.args.end c.args.at source.bytes.now c.in_ok-start.start c.in_ok-start.ensures.gives (omega arith) u c.in_ok-n.n c.in_ok-n.first (c.in_ok-n.ensures.gives u bounded) c.elements.result (c.elements.ensures.gives u e shaped)

pub elements-returns-then-place-end-clause-gives : goal.elements-returns-then-place-end-clause-gives
elements-returns-then-place-end-clause-gives t c = λ u e shaped.
    leads_end (value c.args.source.now.bounds c.args.source.now.order c.args.depth_left (c.args.at + c.args.n) u) c.args.source.now.bytes.now c.args.n (c.args.at + c.args.n) c.args.at (c.args.n - c.loop-turn._turn) c.loop-turn.place (c.loop-turn.invariant.leads u e shaped) c.if-place-end.true

pub elements-returns-then-place-end-2-clause-gives : goal.elements-returns-then-place-end-2-clause-gives
elements-returns-then-place-end-2-clause-gives t c = λ u e shaped.
    leads_end (value c.args.source.now.bounds c.args.source.now.order c.args.depth_left (c.args.at + c.args.n) u) c.args.source.now.bytes.now c.args.n (c.args.at + c.args.n) c.args.at (c.args.n - c.loop-turn._turn) c.loop-turn.place (c.loop-turn.invariant.leads u e shaped) c.if-place-end-2.true

pub elements-returns-else-place-end-2-clause-gives : goal.elements-returns-else-place-end-2-clause-gives
elements-returns-else-place-end-2-clause-gives t c = λ u e shaped.
    lacks_end (value c.args.source.now.bounds c.args.source.now.order c.args.depth_left (c.args.at + c.args.n) u) c.args.source.now.bytes.now c.args.n (c.args.at + c.args.n) c.args.at (c.args.n - c.loop-turn._turn) c.loop-turn.place (c.loop-turn.invariant.leads u e shaped) (omega arith) c.if-place-end-2.false

pub elements-returns-in_err-place-clause-gives : goal.elements-returns-in_err-place-clause-gives
elements-returns-in_err-place-clause-gives t c = λ u e shaped.
    let turns = c.args.n - c.loop-turn._turn in
    rw c.from_residual.ensures (
    lacks_element (value c.args.source.now.bounds c.args.source.now.order c.args.depth_left (c.args.at + c.args.n) u) c.args.source.now.bytes.now c.args.n (c.args.at + c.args.n) c.args.at turns c.loop-turn.place
    (c.loop-turn.invariant.leads u e shaped) (turns - 1) (omega arith) (omega (arith, c.if-place-end.false)) (c.in_err-place.ensures.gives u e shaped)
    )

pub elements-loop-turn-init : goal.elements-loop-turn-init
elements-loop-turn-init t c =
    record {
      at_most = omega arith;
      leads = λ u e shaped. leads_all (value c.args.source.now.bounds c.args.source.now.order c.args.depth_left (c.args.at + c.args.n) u) c.args.source.now.bytes.now c.args.n (c.args.at + c.args.n) c.args.at (c.args.n - 0) (omega arith);
    }

pub elements-loop-turn-preserved : goal.elements-loop-turn-preserved
elements-loop-turn-preserved t c =
    record {
      at_most = c.in_ok-place.ensures.moves.1;
      leads = λ u e shaped.
          leads_on (value c.args.source.now.bounds c.args.source.now.order c.args.depth_left (c.args.at + c.args.n) u) c.args.source.now.bytes.now c.args.n (c.args.at + c.args.n) c.args.at (c.args.n - c.loop-turn._turn) c.loop-turn.place
          (c.loop-turn.invariant.leads u e shaped) (c.args.n - (c.loop-turn._turn + 1)) (omega arith) (omega (arith, c.if-place-end.false)) c.in_ok-place.place (c.in_ok-place.ensures.gives u e shaped);
    }

-- ---- dict entries and variants

pub entry-returns-in_err-start-clause-gives : goal.entry-returns-in_err-start-clause-gives
unfolding entry_value
entry-returns-in_err-start-clause-gives t c = λ k v e shaped. rw c.from_residual.ensures (not_first (padding 8 c.args.end c.args.at (drop c.args.at c.args.source.now.bytes.now)) _ (c.padding.ensures.none c.in_err-start.was))

pub entry-returns-clause-gives : goal.entry-returns-clause-gives
entry-returns-clause-gives t c = λ k v e shaped.
    let source = c.args.source.now in
    entry_answers source.bounds source.order c.args.depth_left c.args.end c.args.at source.bytes.now c.in_ok-start.start c.in_ok-start.ensures.gives k v c.all_values.result (c.all_values.ensures.gives (MoreTypes k (MoreTypes v NoTypes)) e shaped)

pub variant-returns-then-depth_left-eq0-clause-gives : goal.variant-returns-then-depth_left-eq0-clause-gives
variant-returns-then-depth_left-eq0-clause-gives t c = variant_too_deep c.args.source.now.bounds c.args.source.now.order c.args.depth_left c.args.end c.args.at c.args.source.now.bytes.now c.if-depth_left-eq0.true

pub variant-returns-in_err-n-clause-gives : goal.variant-returns-in_err-n-clause-gives
variant-returns-in_err-n-clause-gives t c =
    rw c.from_residual.ensures (variant_unsigned c.args.source.now.bounds c.args.source.now.order c.args.depth_left c.args.end c.args.at c.args.source.now.bytes.now (omega arith) (c.short_text.ensures.none c.in_err-n.was c.args.source.now.order))

pub variant-returns-then-not-is_container-clause-gives : goal.variant-returns-then-not-is_container-clause-gives
variant-returns-then-not-is_container-clause-gives t c =
    let source = c.args.source.now in
    let bytes = source.bytes.now in
    let there : c.args.at + 1 < length bytes = omega (arith, c.in_ok-n.ensures.fits) in
    let after : c.args.at + 1 + 2 ≡ c.args.at + 1 + c.in_ok-n.n + 1 = omega (arith, c.if-n-eq1.true) in
    variant_answers source.bounds source.order c.args.depth_left c.args.end c.args.at bytes (omega arith) c.in_ok-n.n (c.in_ok-n.ensures.measures source.order) c.in_ok-n.ensures.text c.in_ok-n.n refl c.basic_value.result
    (λ u is whole.
    let code = first_front bytes (c.args.at + 1) c.in_ok-n.n u there is in
    subst (λ (p : ℕ). Answers bytes c.basic_value.result (value source.bounds source.order (c.args.depth_left - 1) c.args.end u p (drop p bytes))) after (c.basic_value.ensures.gives (c.args.depth_left - 1) u code (c.is_container.ensures c.if-not-is_container.true u code)))

pub variant-returns-clause-gives : goal.variant-returns-clause-gives
variant-returns-clause-gives t c =
    let source = c.args.source.now in
    variant_answers source.bounds source.order c.args.depth_left c.args.end c.args.at source.bytes.now (omega arith) c.in_ok-n.n (c.in_ok-n.ensures.measures source.order) c.in_ok-n.ensures.text (c.args.at + 1 + c.in_ok-n.n - (c.args.at + 1)) (omega arith) c.own_value.result c.own_value.ensures.gives

-- ---- values of any type

pub one_value-returns-then-code-eq118-clause-gives : goal.one_value-returns-then-code-eq118-clause-gives
one_value-returns-then-code-eq118-clause-gives t c = λ u e shaped.
    as_variant c.args.source.now.bounds c.args.source.now.order c.args.depth_left c.args.end c.args.at c.args.source.now.bytes.now u c.variant.result (variant_is u (code_is u c.args.types.now e ∙ c.if-code-eq118.true)) c.variant.ensures.gives

pub one_value-returns-then-code-eq97-clause-gives : goal.one_value-returns-then-code-eq97-clause-gives
one_value-returns-then-code-eq97-clause-gives t c = λ u e shaped.
    let w = array_is u c.args.types.now e c.if-code-eq97.true in
    as_array c.args.source.now.bounds c.args.source.now.order c.args.depth_left c.args.end c.args.at c.args.source.now.bytes.now u c.array.result w.0 w.1 (c.array.ensures.gives w.0 w.2 (subst (λ (v : TypeTree). IsShaped true v) w.1 shaped))

pub one_value-returns-then-types-gt1-clause-gives : goal.one_value-returns-then-types-gt1-clause-gives
one_value-returns-then-types-gt1-clause-gives t c = λ u e shaped.
    let w = entry_is u c.args.types.now e c.if-code-eq123.true in
    as_entry c.args.source.now.bounds c.args.source.now.order c.args.depth_left c.args.end c.args.at c.args.source.now.bytes.now u c.entry.result w.0 w.1 w.2 (c.entry.ensures.gives w.0 w.1 w.3 (entry_shaped w.0 w.1 (subst (λ (v : TypeTree). IsShaped true v) w.2 shaped)))

-- ---- what is noted of the types of a part

pub one_value-array-requires : goal.one_value-array-requires
one_value-array-requires t c =
    let types = c.args.types.now in
    let some : 0 < length types = omega (arith, eqb-false (length types) 0 (sym c.is_empty.ensures ∙ c.if-is_empty.false)) in
    let size : length (take (length types - 1) (drop 1 types)) ≡ length types - 1 = omega (arith, length-take (length types - 1) (drop 1 types), length-drop 1 types) in
    (omega (arith, size, some), (c.requires.at_most, (c.requires.inside, (omega (arith, size, some, c.requires.near), part_noted types c.args.source.now.lengths.now c.args.pos c.requires.noted 1 (length types - 1)))))

pub one_value-entry-requires : goal.one_value-entry-requires
one_value-entry-requires t c =
    let types = c.args.types.now in
    let k = length types - 1 - 1 in
    let size : length (take k (drop 1 types)) ≡ k = omega (arith, length-take k (drop 1 types), length-drop 1 types) in
    (omega (arith, size, c.if-types-gt1.true), (c.requires.at_most, (c.requires.inside, (omega (arith, size, c.if-types-gt1.true, c.requires.near), part_noted types c.args.source.now.lengths.now c.args.pos c.requires.noted 1 k))))
