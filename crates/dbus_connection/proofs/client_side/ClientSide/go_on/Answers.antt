use Rattle.std.proofs.Common.{◌≡◌, ◌∙◌, ap, subst, sym}
use Rattle.dbus_auth.specs.EndViews.{client_end_state}
use Rattle.dbus_auth.specs.Ends.{ClientEndState, EndOutcome}
use Rattle.dbus_connection.proofs.Starts.{by_sent, first_call, starts_as}
use Rattle.dbus_connection.proofs.client_side.ClientSide.go_on.Goals as goal

pub returns-clause-step : goal.returns-clause-step
returns-clause-step c =
    let e = client_end_state c.args.self.now.end in
    let told = c.in_ok-send.ensures in
    let status = c.started_as-status.ensures ∙ ap by_sent (c.deref.ensures.value ∙ told.send) ∙ (starts_as e).1 in
    subst (λ (o : EndOutcome ClientEndState). (0 ≡ o.taken) × (c.in_ok-send.send.items ≡ o.send) × (c.started_as-status.result ≡ o.after.status) × (client_end_state c.start.new.self ≡ o.after))
    (first_call e c.args.bytes.now (sym c.args.self.now.same ∙ c.if-self.false)) ((starts_as e).0, told.send, status, told.after)
