use Rattle.std.proofs.Common.{subst}
use Rattle.dbus_check.specs.Progress.{denotes}
use Rattle.dbus_check.specs.declared.progress.Stage.{Stage}
use Rattle.dbus_check.proofs.FieldLaws.{steps_of}
use Rattle.dbus_check.proofs.progress.Progress.step.Goals as goal

pub returns-in-Header-clause-steps : goal.returns-in-Header-clause-steps
returns-in-Header-clause-steps c = λ to d.
    let x = c.args.self.now in
    steps_of x c.header.new.self c.args.bytes.now c.header.result to d (c.header.ensures.moves to (subst (λ (st : Stage). denotes st x to) c.in-Header.is d))
