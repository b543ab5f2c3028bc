use Rattle.std.proofs.Common.{ap, sym, refl, ◌∙◌, option_map, []}
use Rattle.dbus_calls.specs.Events.{event_seen}
use Rattle.dbus_call_lines.specs.Listing.{nth}
use Rattle.dbus_list.proofs.Paired.{leaves, passes, replies, tells_answered, tells_none}
use Rattle.dbus_list.proofs.call_table.CallTable.take.Goals as goal

pub returns-in-Reply-clause-keeps : goal.returns-in-Reply-clause-keeps
returns-in-Reply-clause-keeps c = λ order m views before keeps.
    let reply = c.in-Reply.reply in
    replies before (nth c.args.place m) c.args.self.now _ keeps reply.caller.now reply.serial (option_map (λ s. s.now) reply.sender) (ap event_seen (sym c.in-Reply.is) ∙ c.event.ensures.event order m views) c.answer.ensures.left

pub returns-in-Reply-clause-answered : goal.returns-in-Reply-clause-answered
returns-in-Reply-clause-answered c = λ order m views before keeps.
    let reply = c.in-Reply.reply in
    tells_answered before (nth c.args.place m) c.args.self.now c.args.self.now keeps reply.caller.now reply.serial (option_map (λ s. s.now) reply.sender) (ap event_seen (sym c.in-Reply.is) ∙ c.event.ensures.event order m views)
    c.answer.result c.answer.ensures.answers

pub returns-in-Departure-clause-keeps : goal.returns-in-Departure-clause-keeps
returns-in-Departure-clause-keeps c = λ order m views before keeps.
    leaves before (nth c.args.place m) c.args.self.now _ keeps c.in-Departure.name.now 0 (ap event_seen (sym c.in-Departure.is) ∙ c.event.ensures.event order m views) c.close_all.ensures.left

pub returns-in-Departure-clause-answered : goal.returns-in-Departure-clause-answered
returns-in-Departure-clause-answered c = λ order m views before keeps.
    tells_none before (nth c.args.place m) _ (ap event_seen (sym c.in-Departure.is) ∙ c.event.ensures.event order m views) refl

pub returns-in-Other-clause-keeps : goal.returns-in-Other-clause-keeps
returns-in-Other-clause-keeps c = λ order m views before keeps.
    passes before (nth c.args.place m) c.args.self.now c.args.self.now keeps [] 0 (ap event_seen (sym c.in-Other.is) ∙ c.event.ensures.event order m views) refl

pub returns-in-Other-clause-answered : goal.returns-in-Other-clause-answered
returns-in-Other-clause-answered c = λ order m views before keeps.
    tells_none before (nth c.args.place m) _ (ap event_seen (sym c.in-Other.is) ∙ c.event.ensures.event order m views) refl
