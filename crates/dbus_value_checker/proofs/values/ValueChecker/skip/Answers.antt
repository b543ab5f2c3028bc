use Rattle.std.proofs.Common.{length, arith, subst}
use Rattle.dbus_value_checker.specs.Denotations.{denotes}
use Rattle.dbus_value_checker.specs.declared.values.Doing.{Doing}
use Rattle.dbus_value_checker.proofs.ArrayRuns.{numbers_near, numbers_wait, numbers_on}
use Rattle.dbus_value_checker.proofs.values.ValueChecker.skip.Goals as goal

pub overflow_add-self : goal.overflow_add-self
overflow_add-self c =
    let v = c.requires.valid in
    let near = numbers_near c.args.self.now c.in-Numbers.left v.0 (subst (λ (d : Doing). denotes d c.args.self.now v.0) c.in-Numbers.is v.1).1 in
    omega arith

pub returns-in-Numbers-clause-runs : goal.returns-in-Numbers-clause-runs
returns-in-Numbers-clause-runs c = λ yes answer h.
    let x = c.args.self.now in let s = c.args.bytes.now in
    let b = (subst (λ (d : Doing). denotes d x answer) c.in-Numbers.is h).1 in
    (omega arith, (omega arith, numbers_on x c.in-Numbers.left answer b s (length s) (omega arith) _ (omega arith)), λ live. numbers_wait x c.in-Numbers.left answer b s (omega arith))
