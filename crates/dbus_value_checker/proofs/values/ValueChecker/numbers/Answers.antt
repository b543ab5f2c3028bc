use Rattle.std.proofs.Common.{length, arith, refl, ap, ◌∙◌}
use Rattle.std.proofs.lemmas.List.{length-take}
use Rattle.dbus_value_checker.proofs.ArrayRuns.{numbers_near, numbers_wait, numbers_on, numbers_over}
use Rattle.dbus_value_checker.proofs.values.ValueChecker.numbers.Goals as goal

pub overflow_add-self : goal.overflow_add-self
overflow_add-self c =
    let v = c.requires.valid in
    let near = numbers_near c.args.self.now c.args.left v.0 v.1 in
    let l = ap length c.front-n.ensures ∙ length-take c.args.left c.args.bytes.now in
    omega arith

pub returns-then-n-eq0-clause-moves : goal.returns-then-n-eq0-clause-moves
returns-then-n-eq0-clause-moves c = λ answer b. let l = ap length c.front-n.ensures ∙ length-take c.args.left c.args.bytes.now in (refl, numbers_wait c.args.self.now c.args.left answer b c.args.bytes.now (omega arith))

pub returns-then-n-left-clause-moves : goal.returns-then-n-left-clause-moves
returns-then-n-left-clause-moves c = λ answer b.
    let l = ap length c.front-n.ensures ∙ length-take c.args.left c.args.bytes.now in
    (omega arith, (omega arith, numbers_on c.args.self.now c.args.left answer b c.args.bytes.now (length c.front-n.result.now) (omega arith) _ (omega arith)))

pub next-requires : goal.next-requires
next-requires c =
    let v = c.requires.valid in
    let l = ap length c.front-n.ensures ∙ length-take c.args.left c.args.bytes.now in
    record { valid = (_, numbers_over c.args.self.now c.args.left v.0 v.1 c.args.bytes.now (length c.front-n.result.now) (omega arith) (omega arith)) }

pub returns-clause-moves : goal.returns-clause-moves
returns-clause-moves c = λ answer b.
    let l = ap length c.front-n.ensures ∙ length-take c.args.left c.args.bytes.now in
    (omega arith, c.next.ensures _ (numbers_over c.args.self.now c.args.left answer b c.args.bytes.now (length c.front-n.result.now) (omega arith) (omega arith)))
