use Rattle.std.proofs.Common.{◌≡◌, ℕ, List, [], arith, refl, sym, subst}
use Rattle.dbus_value_model.specs.Reading.{Partial}
use Rattle.dbus_value_checker.proofs.TextSteps.{taken_there, texts_on, texts_wait, texts_break, empty_list}
use Rattle.dbus_value_checker.proofs.Calls.{opens_after}
use Rattle.dbus_value_checker.proofs.values.ValueChecker.text.Goals as goal

pub returns-then-is_empty-clause-moves : goal.returns-then-is_empty-clause-moves
returns-then-is_empty-clause-moves c = λ answer t.
    let none : c.args.bytes.now ≡ [] = empty_list c.args.bytes.now (grind arith) in
    (refl, subst (λ (s : List ℕ). answer.to s ≡ Partial) (sym none) (texts_wait c.args.self.now c.args.kind c.args.left answer t c.requires.more))

pub returns-then-taken-given-clause-moves : goal.returns-then-taken-given-clause-moves
returns-then-taken-given-clause-moves c = λ answer t.
    let a = c.args in let k = c.take-taken.ensures in
    rw c.refuse.ensures (texts_break a.self.now a.kind a.left answer t a.bytes.now c.front-given.result.now c.front-given.ensures c.take-taken.new.self c.take-taken.result k.within k.kind k.stands c.reason_of_kind.result c.if-taken-given.true (k.breaks c.if-taken-given.true) c.reason_of_kind.ensures)

pub text_on-requires : goal.text_on-requires
text_on-requires c =
    let a = c.args in let k = c.take-taken.ensures in
    record { valid = (_, texts_on a.self.now a.kind a.left c.requires.valid.0 c.requires.valid.1 a.bytes.now c.front-given.result.now c.front-given.ensures c.take-taken.new.self c.take-taken.result k.within k.kind k.stands c.keep.new.held c.if-taken-given.false c.keep.ensures) }

pub returns-in-Ok-clause-moves : goal.returns-in-Ok-clause-moves
returns-in-Ok-clause-moves c = λ answer t.
    let a = c.args in let k = c.take-taken.ensures in (
      (taken_there a.self.now a.kind a.left answer t a.bytes.now c.front-given.result.now c.front-given.ensures c.take-taken.new.self c.take-taken.result k.within k.kind k.stands).0,
      c.in-Ok.ensures.opens _ (texts_on a.self.now a.kind a.left answer t a.bytes.now c.front-given.result.now c.front-given.ensures c.take-taken.new.self c.take-taken.result k.within k.kind k.stands c.keep.new.held c.if-taken-given.false c.keep.ensures),
    )

pub returns-in-Err-clause-moves : goal.returns-in-Err-clause-moves
returns-in-Err-clause-moves c = λ answer t.
    let a = c.args in let k = c.take-taken.ensures in
    opens_after a.self.now c.text_on.new.self a.bytes.now c.take-taken.result c.in-Err.stop answer
    (c.in-Err.ensures.opens _ (texts_on a.self.now a.kind a.left answer t a.bytes.now c.front-given.result.now c.front-given.ensures c.take-taken.new.self c.take-taken.result k.within k.kind k.stands c.keep.new.held c.if-taken-given.false c.keep.ensures))

pub returns-in-Err-clause-short : goal.returns-in-Err-clause-short
returns-in-Err-clause-short c = λ e. absurd (c.in-Err.ensures.decided e)
