use Rattle.std.proofs.Common.{List, ℕ, sym, subst}
use Rattle.dbus_show.proofs.FieldTexts.{then}
use Rattle.dbus_call_lines.specs.CallLines.{behind_commas, reply_members, took_members}
use Rattle.dbus_call_lines.specs.Durations.{time_between}
use Rattle.dbus_call_lines.specs.Outcomes.{outcome_seen}
use Rattle.dbus_call_lines.specs.declared.outcome.Outcome.{Outcome}
use Rattle.dbus_call_lines.proofs.LineLaws.{error_members, replied_members}
use Rattle.dbus_call_lines.proofs.ending.write_reply.Goals as goal

pub returns-in-Reply : goal.returns-in-Reply
returns-in-Reply g c =
    let took = rw c.time_between.ensures at c.write_milliseconds_member.ensures in
    subst (λ (o : Outcome). g.D.Draft.gains c.args.draft.now (behind_commas (reply_members c.args.sent (outcome_seen o))) c.write_milliseconds_member.new.draft) (sym c.in-Reply.is)
    (subst (λ (t : List ℕ). g.D.Draft.gains c.args.draft.now t c.write_milliseconds_member.new.draft) (replied_members c.in-Reply.place.number (took_members (time_between c.args.sent c.in-Reply.place.time)))
    (then g.D.Draft.gains g.met.D.Draft.joins c.write_number.ensures took))

pub returns-in-Error : goal.returns-in-Error
returns-in-Error g c =
    let took = rw c.time_between-in-Error.ensures at c.write_milliseconds_member-in-Error.ensures in
    subst (λ (o : Outcome). g.D.Draft.gains c.args.draft.now (behind_commas (reply_members c.args.sent (outcome_seen o))) c.write_milliseconds_member-in-Error.new.draft) (sym c.in-Error.is)
    (subst (λ (t : List ℕ). g.D.Draft.gains c.args.draft.now t c.write_milliseconds_member-in-Error.new.draft) (error_members c.in-Error.place.number c.in-Error.name.now (took_members (time_between c.args.sent c.in-Error.place.time)))
    (then g.D.Draft.gains g.met.D.Draft.joins c.write_number-in-Error.ensures (then g.D.Draft.gains g.met.D.Draft.joins c.push_str.ensures (then g.D.Draft.gains g.met.D.Draft.joins c.write_string.ensures took))))
