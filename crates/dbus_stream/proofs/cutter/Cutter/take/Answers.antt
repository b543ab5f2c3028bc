use Rattle.std.proofs.Common.{subst}
use Rattle.dbus_header.specs.MessageOutcomes.{IsPartial}
use Rattle.dbus_stream.specs.Cutting.{CutterState}
use Rattle.dbus_stream.proofs.CutterSteps.{answer_ends, answer_fits, answer_moves}
use Rattle.dbus_stream.proofs.cutter.Cutter.take.Goals as goal

pub returns-clause-within : goal.returns-clause-within
returns-clause-within g c = answer_fits c.args.self.now c.args.piece.now c.take_on.new.self c.take_on.result c.take_on.ensures

pub returns-clause-moves : goal.returns-clause-moves
returns-clause-moves g c =
    answer_moves c.args.self.now c.args.piece.now c.take_on.new.self c.take_on.result
    (subst (λ (s : CutterState). IsPartial s.limits s.held) c.self.view_is c.self.invariant.partial) c.take_on.ensures

pub returns-clause-ends : goal.returns-clause-ends
returns-clause-ends g c =
    answer_ends c.args.self.now c.args.piece.now c.take_on.new.self c.take_on.result
    (subst (λ (s : CutterState). IsPartial s.limits s.held) c.self.view_is c.self.invariant.partial) c.take_on.ensures

pub returns-clause-unshown : goal.returns-clause-unshown
returns-clause-unshown g c = subst (λ (s : CutterState). IsPartial s.limits s.held) c.self.view_is c.self.invariant.partial
