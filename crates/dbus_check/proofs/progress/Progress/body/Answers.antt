use Rattle.std.proofs.Common.{refl, arith}
use Rattle.dbus_value_checker.specs.Suspended.{done}
use Rattle.dbus_value_laws.proofs.ReadSteps.{bytes_from}
use Rattle.dbus_check.proofs.ValueStages.{body_on, body_still, body_left, body_ended, body_refused}
use Rattle.dbus_check.proofs.progress.Progress.body.Goals as goal

pub run-requires : goal.run-requires
run-requires c = let v = c.requires.valid.1 in record { valid = (_, v.flows.value done) }

pub returns-then-n-eq0-clause-steps : goal.returns-then-n-eq0-clause-steps
returns-then-n-eq0-clause-steps c = λ to w. body_still c.args.self.now to w c.run.new.self c.args.bytes.now c.in-Ok.n (bytes_from _ (λ i. omega (arith, c.type_inv.bytes i))) c.in-Ok.ensures.runs c.requires.stage c.if-n-eq0.true (c.if-is_live.ensures.0 refl)

pub returns-then-is_live-clause-steps : goal.returns-then-is_live-clause-steps
returns-then-is_live-clause-steps c = λ to w. body_on c.args.self.now to w c.run.new.self c.args.bytes.now c.in-Ok.n (bytes_from _ (λ i. omega (arith, c.type_inv.bytes i))) c.in-Ok.ensures.runs c.requires.stage

pub returns-then-offset-self-clause-steps : goal.returns-then-offset-self-clause-steps
returns-then-offset-self-clause-steps c = λ to w. rw c.refuse.ensures (body_left c.args.self.now to w c.run.new.self c.args.bytes.now c.in-Ok.n (bytes_from _ (λ i. omega (arith, c.type_inv.bytes i))) c.in-Ok.ensures.runs (λ h. let e = c.if-is_live.ensures.1 h in absurd cc) c.offset-offset.result c.offset-offset.ensures c.if-offset-self.true)

pub returns-else-offset-self-clause-steps : goal.returns-else-offset-self-clause-steps
returns-else-offset-self-clause-steps c = λ to w. body_ended c.args.self.now to w c.run.new.self c.args.bytes.now c.in-Ok.n (bytes_from _ (λ i. omega (arith, c.type_inv.bytes i))) c.in-Ok.ensures.runs (λ h. let e = c.if-is_live.ensures.1 h in absurd cc) c.offset-offset.result c.offset-offset.ensures c.if-offset-self.false

pub returns-in-Err-clause-steps : goal.returns-in-Err-clause-steps
returns-in-Err-clause-steps c = λ to w. body_refused c.args.self.now to w c.run.new.self c.args.bytes.now c.in-Err.fault c.in-Err.ensures.runs
