use Rattle.std.proofs.Common.{ℕ, ◌≤◌, List, length, subst, sym, arith}
use Rattle.dbus_auth.specs.Machines.{IsServer}
use Rattle.dbus_auth.specs.Ends.{ServerEndState}
use Rattle.dbus_auth.specs.EndViews.{server_end_state}
use Rattle.dbus_c_auth.specs.declared.step.TheConstants.{REPLY_ROOM}
use Rattle.dbus_c_auth.proofs.Replies.{server_reply}
use Rattle.dbus_c_auth.proofs.server_side.ServerSide.take.Goals as goal

pub step_in-requires : goal.step_in-requires
step_in-requires c =
    let short = (server_reply (server_end_state c.self.inside.end) c.self.invariant c.args.piece.now).fits in
    omega (arith, subst (λ (send : List ℕ). length send ≤ REPLY_ROOM) (sym c.in_ok-step.ensures.step.1) short, c.if-reply-lt-REPLY_ROOM.false)

pub invariant_of-self-2 : goal.invariant_of-self-2
invariant_of-self-2 c =
    let stays = (server_reply (server_end_state c.self.inside.end) c.self.invariant c.args.piece.now).machine in
    subst (λ (e : ServerEndState). IsServer e.machine) (sym c.in_ok-step.ensures.step.3) stays
