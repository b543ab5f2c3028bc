use Rattle.std.proofs.Common.{refl, subst, Ok, Err}
use Rattle.dbus_stream.specs.CutterTaking.{cutting}
use Rattle.dbus_stream.specs.Taking.{Takes}
use Rattle.dbus_stream.proofs.MessageSteps.{cuts, refuses, limits_stay}
use Rattle.dbus_stream.proofs.cutter.CutterTaker.take_piece.Goals as goal

pub returns-in-Ok-clause-limits : goal.returns-in-Ok-clause-limits
returns-in-Ok-clause-limits g c = limits_stay c.args.self.now c.args.piece.now c.take.new.self c.in-Ok.count c.in-Ok.message c.args.self.now.fault refl (rw c.in-Ok.is at c.take.ensures.takes)

pub returns-in-Ok-clause-takes : goal.returns-in-Ok-clause-takes
returns-in-Ok-clause-takes g c = λ w holds size.
    subst (λ v. Takes (cutting g.row.A.Denot) c.args.self.now v c.args.piece.now c.take.new.self (Ok c.in-Ok.count) c.in-Ok.message) holds.0
    (cuts c.args.self.now c.args.piece.now c.take.new.self c.in-Ok.count c.in-Ok.message (rw c.in-Ok.is at (c.take.ensures.takes.answers holds.1)) (rw c.in-Ok.is at c.take.ensures.ends))

pub returns-in-Err-clause-takes : goal.returns-in-Err-clause-takes
returns-in-Err-clause-takes g c = λ w holds size.
    subst (λ v. Takes (cutting g.row.A.Denot) c.args.self.now v c.args.piece.now c.take.new.self (Err c.in-Err.fault) c.args.given.now) holds.0
    (refuses c.args.self.now c.args.piece.now c.take.new.self c.in-Err.fault c.args.given.now (rw c.in-Err.is at (c.take.ensures.takes.answers holds.1)) holds.1 c.take.ensures.unshown)
