use Rattle.std.proofs.Common.{None, ap, sym, ◌∙◌, option_map}
use Rattle.dbus_calls.specs.Events.{event_seen}
use Rattle.dbus_calls.specs.Kept.{waiting}
use Rattle.dbus_names.specs.Kept.{call_kept, calls_of}
use Rattle.dbus_names.specs.NameCalls.{receiver_of}
use Rattle.dbus_names.specs.NameStates.{calls_after}
use Rattle.dbus_names.proofs.KeptSteps.{after_seen}
use Rattle.dbus_names.proofs.names.Names.close_calls.Goals as goal

pub returns-in-Reply-clause-calls : goal.returns-in-Reply-clause-calls
returns-in-Reply-clause-calls c = λ d t.
    let reply = c.in-Reply.reply in
    let caller = reply.caller.now in
    let sender = option_map (λ s. s.now) reply.sender in
    let before = waiting c.args.self.now.calls in
    ap (option_map call_kept) (c.answer.ensures.left d t)
    ∙ (after_seen call_kept receiver_of sender (before caller reply.serial) caller reply.serial before d t
    ∙ ap (λ e. calls_after (calls_of c.args.self.now) (event_seen e) None d t) (sym c.in-Reply.is))
