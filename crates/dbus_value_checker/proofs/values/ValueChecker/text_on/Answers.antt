use Rattle.std.proofs.Common.{arith}
use Rattle.dbus_value_checker.proofs.TextSteps.{texts_end, texts_held, texts_unlike, texts_doing, nuls_doing}
use Rattle.dbus_value_checker.proofs.values.ValueChecker.text_on.Goals as goal

pub returns-then-left-gt0-clause-opens : goal.returns-then-left-gt0-clause-opens
returns-then-left-gt0-clause-opens c = λ answer t. (c.if-left-gt0.true, texts_doing c.args.self.now _ c.args.kind c.args.left answer t)

pub hold-requires : goal.hold-requires
hold-requires c =
    let x = c.args.self.now in let v = c.requires.valid in
    record { valid = (v.0, texts_held x c.args.kind c.args.left v.0 v.1 (omega arith) ((c.end.ensures v.1.bytes v.1.stands).0 c.if-end.true) (c.is_held.ensures.0 c.if-is_held.true)) }

pub returns-then-is_held-clause-opens : goal.returns-then-is_held-clause-opens
returns-then-is_held-clause-opens c = λ answer t.
    c.hold.ensures answer (texts_held c.args.self.now c.args.kind c.args.left answer t (omega arith) ((c.end.ensures t.bytes t.stands).0 c.if-end.true) (c.is_held.ensures.0 c.if-is_held.true))

pub returns-then-end-clause-opens : goal.returns-then-end-clause-opens
returns-then-end-clause-opens c = λ answer t.
    nuls_doing c.args.self.now _ answer (texts_end c.args.self.now c.args.kind c.args.left answer t (omega arith) ((c.end.ensures t.bytes t.stands).0 c.if-end.true) (λ e. let d = c.is_held.ensures.1 e in let f = c.if-is_held.false in absurd cc))

pub returns-clause-opens : goal.returns-clause-opens
returns-clause-opens c = λ answer t. rw c.refuse.ensures
    (texts_unlike c.args.self.now c.args.kind c.args.left answer t (omega arith) c.reason_of_kind.result (λ h. let e = (c.end.ensures t.bytes t.stands).1 h in let f = c.if-end.false in absurd cc) c.reason_of_kind.ensures)
