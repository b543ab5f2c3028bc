use Rattle.std.proofs.Common.{arith, inr}
use Rattle.dbus_stream.proofs.refused.Refused.size.Goals as goal

pub returns-then-size-self : goal.returns-then-size-self
returns-then-size-self c = λ gone has.
    let few = c.if-size-self.true in
    let count = has.count in
    inr (c.in-Some-size_by.size, c.in-Some-size_by.ensures.states gone has, omega (arith, few, count))

pub returns : goal.returns
returns c = λ gone has.
    let there = c.if-size-self.false in
    let count = has.count in
    (c.in-Some-size_by.ensures.states gone has, omega (arith, there, count))
