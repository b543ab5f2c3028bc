use Rattle.std.proofs.Common.{subst, arith}
use Rattle.dbus_rule_set.specs.Places.{IsNext}
use Rattle.dbus_rule_set.proofs.Among.{next_below, next_first, next_lesser}
use Rattle.dbus_rule_set.proofs.search.nearer.Goals as goal

pub returns-then-from : goal.returns-then-from
returns-then-from c = λ hs is. next_below c.args.from c.args.hash c.args.next hs (omega (arith, c.from.ensures, c.if-from.true)) is

pub returns-in-Some : goal.returns-in-Some
returns-in-Some c = λ hs is. next_lesser c.args.from c.args.hash c.in-Some.next c.min.result hs (omega (arith, c.from.ensures, c.if-from.false)) c.min.ensures (subst (λ o. IsNext c.args.from o hs) c.in-Some.is is)

pub returns-in-None : goal.returns-in-None
returns-in-None c = λ hs is. next_first c.args.from c.args.hash hs (omega (arith, c.from.ensures, c.if-from.false)) (subst (λ o. IsNext c.args.from o hs) c.in-None.is is)
