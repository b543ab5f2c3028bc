use Rattle.std.proofs.Common.{drop, refl, arith}
use Rattle.dbus_value_checker.specs.Suspended.{done}
use Rattle.dbus_value_laws.proofs.ReadSteps.{bytes_at}
use Rattle.dbus_check.proofs.ValueStages.{more_on, more_still, more_ended, more_refused}
use Rattle.dbus_check.proofs.progress.Progress.more.Goals as goal

pub run_after-requires : goal.run_after-requires
run_after-requires c = let v = c.requires.valid.1 in record { valid = (_, v.flows.value done); within = c.requires.within }

pub returns-then-not-is_live-clause-steps : goal.returns-then-not-is_live-clause-steps
returns-then-not-is_live-clause-steps c = λ to w. more_ended c.args.self.now to w c.run_after.new.self (drop c.args.start c.args.bytes.now) c.in-Ok.n (bytes_at _ c.args.start (λ i. omega (arith, c.type_inv.bytes i))) c.in-Ok.ensures.runs (λ h. let e = c.if-not-is_live.ensures.1 h in absurd cc) c.offset-self.result c.offset-self.ensures

pub returns-then-n-eq0-clause-steps : goal.returns-then-n-eq0-clause-steps
returns-then-n-eq0-clause-steps c = λ to w. more_still c.args.self.now to w c.run_after.new.self (drop c.args.start c.args.bytes.now) c.in-Ok.n (bytes_at _ c.args.start (λ i. omega (arith, c.type_inv.bytes i))) c.in-Ok.ensures.runs c.requires.stage c.if-n-eq0.true (c.if-not-is_live.ensures.0 refl)

pub returns-else-n-eq0-clause-steps : goal.returns-else-n-eq0-clause-steps
returns-else-n-eq0-clause-steps c = λ to w. more_on c.args.self.now to w c.run_after.new.self (drop c.args.start c.args.bytes.now) c.in-Ok.n (bytes_at _ c.args.start (λ i. omega (arith, c.type_inv.bytes i))) c.in-Ok.ensures.runs c.requires.stage

pub returns-in-Err-clause-steps : goal.returns-in-Err-clause-steps
returns-in-Err-clause-steps c = λ to w. more_refused c.args.self.now to w c.run_after.new.self (drop c.args.start c.args.bytes.now) c.in-Err.fault c.in-Err.ensures.runs
