use Rattle.std.proofs.Common.{refl, inl, inr, arith}
use Rattle.dbus_stream.proofs.SeekSteps.{found_inside}
use Rattle.dbus_stream.proofs.seeking.resumed.Goals as goal

pub returns-then-behind-effort-clause-resumes : goal.returns-then-behind-effort-clause-resumes
returns-then-behind-effort-clause-resumes c = (c.looked_behind-behind.result, c.looked_behind-behind.ensures, inl (c.if-behind-effort.true, refl))

pub returns-in-None-clause-resumes : goal.returns-in-None-clause-resumes
returns-in-None-clause-resumes c = (
  c.looked_behind-behind.result,
  c.looked_behind-behind.ensures,
  inr (
    omega (arith, c.if-behind-effort.false),
    inr (c.led_to.ensures.none c.in-None.is, c.first_message-first.result, record { finds = c.first_message-first.ensures.finds; keeps_effort = c.first_message-first.ensures.effort }, refl),
  ),
)

pub returns-in-None-clause-inside : goal.returns-in-None-clause-inside
returns-in-None-clause-inside c = λ offset is. found_inside c.args.limits c.args.bytes.now c.first_message-first.result.found c.first_message-first.ensures.finds offset is
