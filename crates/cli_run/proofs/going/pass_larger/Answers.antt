use Rattle.std.proofs.Common.{refl, arith, inl, inr}
use Rattle.dbus_stream.specs.RawReading.{kept, limits_of}
use Rattle.dbus_stream.proofs.SizeSteps.{size_once}
use Rattle.cli_run.proofs.going.pass_larger.Goals as goal

pub returns-in_default-clause-passes : goal.returns-in_default-clause-passes
returns-in_default-clause-passes g c = inr ((λ larger. c.stated_size.ensures.none c.in_default.is larger.0 larger.1), refl, refl)

pub returns-then-size-from-clause-passes : goal.returns-then-size-from-clause-passes
returns-then-size-from-clause-passes g c =
    let over = c.if-size-from.true in
    inl ((c.in-Some.size, c.in-Some.ensures.states, omega (arith, over, c.from.ensures)), c.pass_over.ensures.passes)

pub returns-else-size-from-clause-passes : goal.returns-else-size-from-clause-passes
returns-else-size-from-clause-passes g c =
    let small = c.if-size-from.false in
    let old = c.args.messages.now in
    inr (
      (λ larger.
          let same = size_once (limits_of old) (kept old) c.in-Some.size larger.0 c.in-Some.ensures.states larger.1 in
          omega (arith, small, same, larger.2, c.from.ensures)),
      refl,
      refl,
    )
