use Rattle.std.proofs.Common.{ℕ, take, drop, refl, Result, Err, ap, ◌∙◌, subst}
use Rattle.dbus_value_model.specs.declared.stop.Stop.{Stop}
use Rattle.dbus_value_model.specs.declared.stop.Stop.TheVariants as stops
use Rattle.dbus_check.specs.Progress.{To, Denotes, Steps, after_bytes}
use Rattle.dbus_check.proofs.FieldLaws.{both_move, second_stops}
use Rattle.dbus_check.proofs.progress.Progress.run.Goals as goal

pub loop-self-preserved : goal.loop-self-preserved
loop-self-preserved c =
    let l = c.loop-self in
    let y = c.step_after.new.self in
    let steps = c.in-Ok.ensures.steps in
    let told = λ (to : To) (d : Denotes c.args.self.now to). both_move y y c.args.bytes.now l.n l.invariant.within to (drop l.n c.args.bytes.now) refl c.in-Ok.more (steps (after_bytes to (take l.n c.args.bytes.now)) (l.invariant.goes to d)) in
    record { within = (told c.requires.valid.0 c.requires.valid.1).0; some = (_, (steps l.invariant.some.0 l.invariant.some.1).1); goes = λ to d. (told to d).1 }

pub returns-in-Err-Refused-clause-runs : goal.returns-in-Err-Refused-clause-runs
returns-in-Err-Refused-clause-runs c = λ to d.
    let l = c.loop-self in
    let y = c.step_after.new.self in
    second_stops y y c.args.bytes.now l.n l.invariant.within to (drop l.n c.args.bytes.now) refl (stops.Refused c.in-Err-Refused.fault)
    (subst (λ (r : Result ℕ Stop). Steps (drop l.n c.args.bytes.now) r y (after_bytes to (take l.n c.args.bytes.now))) (c.in-Err-Refused.is ∙ ap (λ (e : Stop). Err e) c.in-Err-Refused.field-0-is) (c.step_after.ensures.steps _ (l.invariant.goes to d)))
