use Rattle.std.proofs.Common.{arith, subst}
use Rattle.dbus_value_checker.specs.Denotations.{denotes}
use Rattle.dbus_value_checker.specs.declared.values.Doing.{Doing}
use Rattle.dbus_value_checker.proofs.PaddedValues.{wants_here}
use Rattle.dbus_value_checker.proofs.values.ValueChecker.struct_here.Goals as goal

pub returns-clause-ready : goal.returns-clause-ready
returns-clause-ready c = λ answer d.
    let x = c.args.self.now in
    let w = subst (λ (g : Doing). denotes g x answer) c.in-Wanted.is d in
    wants_here x c.in-Wanted.pos c.in-Wanted.stop answer w c.as_slice.result.now c.as_slice.ensures.value c.boundary.result c.boundary.ensures.value (omega (arith, c.gap.ensures, c.if-gap-gt0.false))
