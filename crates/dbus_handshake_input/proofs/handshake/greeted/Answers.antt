use Rattle.std.proofs.Common.{true, Bool, Ok, refl, subst, sym}
use Rattle.dbus_handshake_input.specs.Ahead.{HasMore}
use Rattle.dbus_handshake_input.specs.Passing.{Greets}
use Rattle.dbus_handshake_input.specs.declared.side.Side.{Side}
use Rattle.dbus_handshake_input.proofs.AheadSteps.{took_nothing, went_on}
use Rattle.dbus_handshake_input.proofs.HandshakeSteps.{greets_client, refuses_first}
use Rattle.dbus_handshake_input.proofs.handshake.greeted.Goals as goal

pub returns-then-kept-ne0-clause-greets : goal.returns-then-kept-ne0-clause-greets
returns-then-kept-ne0-clause-greets g c =
    refuses_first g.R.Source.left g.R.Source.calls g.R.Source.packets g.R.Source.packet c.args.side c.args.input.now c.has_more.new.self c.kept.result.now c.refused-then-kept-ne0.result c.in-Client.is c.refused-then-kept-ne0.ensures
    (went_on g.R.Source.left g.R.Source.calls g.R.Source.packets g.R.Source.packet true _ _ _ c.in-Ok-true.field-0-test c.in-Ok-true.ensures.took) c.kept.ensures c.if-kept-ne0.true

pub returns-else-kept-ne0-clause-greets : goal.returns-else-kept-ne0-clause-greets
returns-else-kept-ne0-clause-greets g c =
    let more = subst (λ (b : Bool). HasMore g.R.Source.left c.has_more.new.self (Ok b)) c.in-Ok-true.field-0-test c.in-Ok-true.ensures.more in
    greets_client g.R.Source.left g.R.Source.calls g.R.Source.packets g.R.Source.packet c.args.side c.args.input.now c.has_more.new.self c.pass.new.self c.kept.result.now c.in-Client.is
    (went_on g.R.Source.left g.R.Source.calls g.R.Source.packets g.R.Source.packet true _ _ _ c.in-Ok-true.field-0-test c.in-Ok-true.ensures.took) c.kept.ensures more c.if-kept-ne0.false c.pass.ensures.rest c.pass.ensures.rests

pub returns-in-Server-clause-greets : goal.returns-in-Server-clause-greets
returns-in-Server-clause-greets g c =
    subst (λ (side : Side). Greets g.R.Source.left g.R.Source.calls g.R.Source.packets g.R.Source.packet side c.args.input.now c.args.input.now (Ok 0)) (sym c.in-Server.is)
    (took_nothing g.R.Source.left g.R.Source.calls g.R.Source.packets g.R.Source.packet c.args.input.now, refl)
