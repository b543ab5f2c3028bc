use Rattle.std.proofs.Common.{◌≡◌, ◌∙◌, ◌≤◌, List, ℕ, length, true, false, subst, sym, ap, if◌then◌else◌, Global}
use Rattle.std.specs.List.{AllByRecursion}
use Rattle.dbus_auth.specs.Machines.{IsMechanism, is_empty}
use Rattle.dbus_auth.specs.EndViews.{client_end_state}
use Rattle.dbus_auth.specs.EndStepViews.{DidStep}
use Rattle.dbus_auth.specs.Ends.{ClientEndState, EndOutcome, client_takes}
use Rattle.dbus_auth.specs.declared.end_step.EndStep.{EndStep}
use Rattle.dbus_auth.specs.declared.end_step.Status.TheVariants as status
use Rattle.dbus_c_auth.specs.declared.step.TheConstants.{REPLY_ROOM}
use Rattle.dbus_c_auth.proofs.Replies.{client_reply, left_after, short_after, starts_as, first_call}
use Rattle.dbus_c_auth.proofs.client_side.ClientSide.go_on.Goals as goal

pub invariant_of-self : goal.invariant_of-self
invariant_of-self c =
    let old = client_end_state c.self.inside.end in
    let new = client_end_state c.take.new.self in
    let outcome = client_takes old c.args.piece.now in (
      left_after c.take.result (λ (s : EndStep Global). DidStep s new outcome) old new outcome (client_reply old c.self.invariant.0 c.args.piece.now true) c.self.invariant.0
          (λ s did. did.3) c.take.ensures.step c.take.ensures.err,
      c.if-self.true ∙ sym c.take.ensures.started,
    )

pub invariant_of-self-2 : goal.invariant_of-self-2
invariant_of-self-2 c =
    let old = client_end_state c.self.inside.end in
    let reply = client_reply old c.self.invariant.0 c.args.piece.now false in
    (subst (λ (e : ClientEndState). AllByRecursion IsMechanism e.machine.left) (sym c.in_ok-send.ensures.after) reply.machine, sym c.in_ok-send.ensures.started)

pub returns-clause-step : goal.returns-clause-step
returns-clause-step c =
    let e = client_end_state c.self.inside.end in
    let told = c.in_ok-send.ensures in
    let stands =
    c.started_as-status.ensures ∙ ap (λ (send : List ℕ). if is_empty send then status.Closed else status.Talking) (c.deref.ensures.value ∙ told.send)
    ∙ (starts_as e).1 in
    let goes = first_call e c.args.self.now c.args.piece.now c.self.view_is (sym c.self.invariant.1 ∙ c.if-self.false) in
    subst (λ (o : EndOutcome ClientEndState). (0 ≡ o.taken) × (c.in_ok-send.send.items ≡ o.send) × (c.started_as-status.result ≡ o.after.status) × (client_end_state c.start.new.self ≡ o.after))
    goes ((starts_as e).0, told.send, stands, told.after)

pub returns-clause-short : goal.returns-clause-short
returns-clause-short c =
    let reply = client_reply (client_end_state c.self.inside.end) c.self.invariant.0 c.args.piece.now false in
    subst (λ (send : List ℕ). length send ≤ REPLY_ROOM) (sym c.in_ok-send.ensures.send) reply.fits

pub returns-then-self-clause-short : goal.returns-then-self-clause-short
returns-then-self-clause-short c =
    let old = client_end_state c.self.inside.end in
    let outcome = client_takes old c.args.piece.now in
    short_after c.take.result (λ (s : EndStep Global). DidStep s (client_end_state c.take.new.self) outcome) (λ (s : EndStep Global). s.send.items) outcome
    (client_reply old c.self.invariant.0 c.args.piece.now true) (λ s did. did.1) c.take.ensures.step
