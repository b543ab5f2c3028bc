use Rattle.std.proofs.Common.{true, Bool, Ok, subst}
use Rattle.dbus_handshake_input.specs.Ahead.{HasMore}
use Rattle.dbus_handshake_input.proofs.AheadSteps.{took_either, took_nothing, went_on}
use Rattle.dbus_handshake_input.proofs.HandshakeSteps.{sees_little, sees_other}
use Rattle.dbus_handshake_input.proofs.handshake.sees_messages.Goals as goal

pub returns-then-not-accepted-clause-took : goal.returns-then-not-accepted-clause-took
returns-then-not-accepted-clause-took g c = took_nothing g.R.Source.left g.R.Source.calls g.R.Source.packets g.R.Source.packet c.args.input.now

pub returns-then-next-eq108-clause-sees : goal.returns-then-next-eq108-clause-sees
returns-then-next-eq108-clause-sees g c =
    sees_little g.R.Source.left c.args.accepted c.has_more.new.self c.kept.result.now c.if-not-accepted.false c.kept.ensures c.if-next-eq108.true

pub returns-then-next-eq108-clause-took : goal.returns-then-next-eq108-clause-took
returns-then-next-eq108-clause-took g c =
    took_either g.R.Source.left g.R.Source.calls g.R.Source.packets g.R.Source.packet _ c.args.input.now c.has_more.new.self (went_on g.R.Source.left g.R.Source.calls g.R.Source.packets g.R.Source.packet true _ _ _ c.if-not-branch.false c.in_ok-has_more.ensures.took)

pub returns-else-next-eq108-clause-sees : goal.returns-else-next-eq108-clause-sees
returns-else-next-eq108-clause-sees g c =
    sees_other g.R.Source.left c.args.accepted c.has_more.new.self c.kept.result.now c.if-not-accepted.false c.kept.ensures c.if-next-eq108.false (subst (λ (b : Bool). HasMore g.R.Source.left c.has_more.new.self (Ok b)) c.if-not-branch.false c.in_ok-has_more.ensures.more)

pub returns-else-next-eq108-clause-took : goal.returns-else-next-eq108-clause-took
returns-else-next-eq108-clause-took g c =
    took_either g.R.Source.left g.R.Source.calls g.R.Source.packets g.R.Source.packet _ c.args.input.now c.has_more.new.self (went_on g.R.Source.left g.R.Source.calls g.R.Source.packets g.R.Source.packet true _ _ _ c.if-not-branch.false c.in_ok-has_more.ensures.took)
