use Rattle.std.proofs.Common.{length, arith, subst}
use Rattle.dbus_value_laws.proofs.ReadSteps.{bytes_from}
use Rattle.dbus_value_checker.specs.Suspended.{done}
use Rattle.dbus_check.specs.Progress.{denotes}
use Rattle.dbus_check.specs.declared.progress.Stage.{Stage}
use Rattle.dbus_check.proofs.ValueStages.{more_on, more_waits, body_on, body_waits}
use Rattle.dbus_check.proofs.progress.Progress.skip.Goals as goal

pub skip-requires : goal.skip-requires
skip-requires c =
    let v = c.requires.valid in
    record { valid = (_, (subst (λ (st : Stage). denotes st c.args.self.now v.0) c.in-Value.is v.1).flows.value done) }

pub returns-in-Value-clause-runs : goal.returns-in-Value-clause-runs
returns-in-Value-clause-runs c = λ yes to d.
    let x = c.args.self.now in let s = c.args.bytes.now in
    let w = subst (λ (st : Stage). denotes st x to) c.in-Value.is d in
    let are = bytes_from s (λ i. omega (arith, c.type_inv.bytes i)) in
    let on = more_on x to w c.skip.new.self s (length s) are (c.skip.ensures.runs yes) c.in-Value.is in
    (on.0, on.1, λ live. more_waits x to w c.skip.new.self s (length s) are (c.skip.ensures.runs yes) (c.skip.ensures.live yes))

pub returns-in-Body-clause-runs : goal.returns-in-Body-clause-runs
returns-in-Body-clause-runs c = λ yes to d.
    let x = c.args.self.now in let s = c.args.bytes.now in
    let w = subst (λ (st : Stage). denotes st x to) c.in-Body.is d in
    let are = bytes_from s (λ i. omega (arith, c.type_inv.bytes i)) in
    let on = body_on x to w c.skip-in-Body.new.self s (length s) are (c.skip-in-Body.ensures.runs yes) c.in-Body.is in
    (on.0, on.1, λ live. body_waits x to w c.skip-in-Body.new.self s (length s) are (c.skip-in-Body.ensures.runs yes) (c.skip-in-Body.ensures.live yes))

pub skip-requires-in-Body : goal.skip-requires-in-Body
skip-requires-in-Body c =
    let v = c.requires.valid in
    record { valid = (_, (subst (λ (st : Stage). denotes st c.args.self.now v.0) c.in-Body.is v.1).flows.value done) }
