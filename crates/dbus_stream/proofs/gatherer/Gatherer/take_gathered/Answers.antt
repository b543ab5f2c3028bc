use Rattle.std.proofs.Common.{None, Ok, Err, subst}
use Rattle.dbus_stream.specs.Gathering.{Gathered, Gathers}
use Rattle.dbus_stream.proofs.GathererSteps.{gathered, waits, fails}
use Rattle.dbus_stream.proofs.gatherer.Gatherer.take_gathered.Goals as goal

pub returns-in-Ok-Some-clause-takes : goal.returns-in-Ok-Some-clause-takes
returns-in-Ok-Some-clause-takes g c = λ before w begins holds.
    let e : Gathered c.args.self.now c.args.piece.now c.in-Ok-Some.count c.gather.new.self = rw c.in-Ok-Some.field-0-is at c.in-Ok-Some.ensures in
    gathered before c.args.piece.now w c.in-Ok-Some.count c.gather.new.self c.validated_whole.result holds
    (subst (λ s. Gathered s c.args.piece.now c.in-Ok-Some.count c.gather.new.self) begins e) c.validated_whole.ensures

pub returns-in-Ok-None-clause-takes : goal.returns-in-Ok-None-clause-takes
returns-in-Ok-None-clause-takes g c = λ before w begins holds.
    let e : Gathers c.args.self.now c.args.piece.now c.gather.new.self (Ok None) = rw c.in-Ok-None.field-0-is at c.in-Ok-None.ensures in
    waits before c.args.piece.now w c.gather.new.self holds (subst (λ s. Gathers s c.args.piece.now c.gather.new.self (Ok None)) begins e)

pub returns-in-Err-clause-takes : goal.returns-in-Err-clause-takes
returns-in-Err-clause-takes g c = λ before w begins holds.
    fails before c.args.piece.now w c.gather.new.self c.in-Err.fault c.args.given.now holds
    (subst (λ s. Gathers s c.args.piece.now c.gather.new.self (Err c.in-Err.fault)) begins c.in-Err.ensures)
