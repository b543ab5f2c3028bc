use Rattle.std.proofs.Common.{◌≡◌, ◌&&◌, ℕ, List, true, false, ◌+◌, ◌-◌, ◌≤◌, length, take, drop, reverse, suc, sym, subst, ◌∙◌, arith}
use Rattle.std.proofs.lemmas.Bool.{eqb-true, eqb-false}
use Rattle.std.proofs.lemmas.List.{length-take-le, take-append-drop}
use Rattle.dbus_value_model.specs.Values.{ValueTree}
use Rattle.dbus_message_model.specs.Messages.{want, is_known, has_code}
use Rattle.dbus_validate.specs.Seen.{IsNoted}
use Rattle.dbus_validate.proofs.FieldTurns.{none_left, same_before, one_left, left_ends, one_unread, none_unread}
use Rattle.dbus_validate.proofs.SeenSteps.{noted_front}
use Rattle.dbus_validate.proofs.fields.validate_fields.Goals as goal

pub loop-turn-init : goal.loop-turn-init
loop-turn-init c = record {
  at_most = omega arith;
  left = none_left c.args.limits c.args.order c.args.bytes.now c.args.at c.args.n c.args.seen.now c.requires.begins (c.requires.unseen (take (c.args.at + c.args.n) c.args.bytes.now));
}

pub loop-turn-preserved : goal.loop-turn-preserved
loop-turn-preserved c =
    let more : c.args.n - c.loop-turn._turn ≡ suc (c.args.n - (c.loop-turn._turn + 1)) = omega arith in
    let left = c.loop-turn.invariant.left in
    let own = take (c.args.at + c.args.n) c.args.bytes.now in
    let alone : is_known c.in-Some.code && has_code c.in-Some.code left.front ≡ false = sym (c.has.ensures own left.front left.noted) ∙ c.if-has.false in
    let fits : c.in-Some.held.start + c.in-Some.held.length ≤ length own =
    omega (arith, c.in-Some.ensures.within, c.in-Some.ensures.moves, length-take-le (c.args.at + c.args.n) c.args.bytes.now c.requires.inside) in
    let noted = λ (v : ValueTree) (is : IsNoted (want c.in-Some.code) v c.args.bytes.now c.in-Some.held).
    noted_front (want c.in-Some.code) v own (drop (c.args.at + c.args.n) c.args.bytes.now) c.in-Some.held fits
    (subst (λ (l : List ℕ). IsNoted (want c.in-Some.code) v l c.in-Some.held) (sym (take-append-drop (c.args.at + c.args.n) c.args.bytes.now)) is) in
    record {
      at_most = c.in-Some.ensures.moves.1;
      left = one_left c.args.limits c.args.order c.args.bytes.now c.args.at c.args.n c.in-Some.ensures.deep (λ i. omega (arith, c.type_inv.bytes i)) (c.args.n - c.loop-turn._turn) (c.args.n - (c.loop-turn._turn + 1)) c.loop-turn.place c.in-Some.code c.in-Some.held c.loop-turn.seen c.note.new.self left
          more (omega (arith, c.if-place-end.false)) alone (λ before. (c.in-Some.ensures.field before).0) (λ v is. c.note.ensures.noted own left.front v left.noted alone (noted v is) fits)
          (λ v begins. c.note.ensures.placed c.args.order left.front v left.placed alone begins);
    }

pub returns-then-place-end-clause-accepts : goal.returns-then-place-end-clause-accepts
returns-then-place-end-clause-accepts c = λ h.
    left_ends c.args.limits c.args.order c.args.bytes.now c.args.at c.args.n (c.args.n - c.loop-turn._turn) c.loop-turn.place c.loop-turn.seen c.loop-turn.invariant.left c.if-place-end.true

pub returns-clause-accepts : goal.returns-clause-accepts
returns-clause-accepts c = λ h.
    left_ends c.args.limits c.args.order c.args.bytes.now c.args.at c.args.n (c.args.n - c.loop-turn._turn) c.loop-turn.place c.loop-turn.seen c.loop-turn.invariant.left (sym (eqb-true (c.args.at + c.args.n) c.loop-turn.place h))

pub returns-in_default-clause-refuses : goal.returns-in_default-clause-refuses
returns-in_default-clause-refuses c = λ none.
    one_unread c.args.limits c.args.order c.args.bytes.now c.args.at c.args.n (c.args.n - c.loop-turn._turn) c.loop-turn.place c.loop-turn.seen c.loop-turn.invariant.left
    (c.args.n - (c.loop-turn._turn + 1)) (omega arith) (omega (arith, c.if-place-end.false)) (rw c.in_default.is at (c.validate_field.ensures.field (reverse c.loop-turn.invariant.left.front)))

pub returns-then-has-clause-refuses : goal.returns-then-has-clause-refuses
returns-then-has-clause-refuses c = λ none.
    let left = c.loop-turn.invariant.left in
    let again : is_known c.in-Some.code && has_code c.in-Some.code left.front ≡ true = sym (c.has.ensures (take (c.args.at + c.args.n) c.args.bytes.now) left.front left.noted) ∙ c.if-has.true in
    one_unread c.args.limits c.args.order c.args.bytes.now c.args.at c.args.n (c.args.n - c.loop-turn._turn) c.loop-turn.place c.loop-turn.seen left
    (c.args.n - (c.loop-turn._turn + 1)) (omega arith) (omega (arith, c.if-place-end.false)) ((c.in-Some.ensures.field (reverse left.front)).1 (same_before c.args.limits c.args.order c.args.bytes.now c.args.at c.args.n c.in-Some.code left.front ∙ again))

pub returns-clause-refuses : goal.returns-clause-refuses
returns-clause-refuses c = λ none. none_unread c.args.limits c.args.order c.args.bytes.now c.args.at c.args.n (c.args.n - c.loop-turn._turn) c.loop-turn.place c.loop-turn.seen c.loop-turn.invariant.left (omega arith) (λ e. eqb-false (c.args.at + c.args.n) c.loop-turn.place none (sym e))
