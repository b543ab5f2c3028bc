use Rattle.std.proofs.Common.{sym, subst}
use Rattle.dbus_show.proofs.FieldTexts.{then}
use Rattle.dbus_call_lines.specs.CallLines.{outcome_text}
use Rattle.dbus_call_lines.specs.Outcomes.{outcome_seen}
use Rattle.dbus_call_lines.specs.declared.outcome.Outcome.{Outcome}
use Rattle.dbus_call_lines.proofs.ending.write_words.Goals as goal

pub returns-in-Reply : goal.returns-in-Reply
returns-in-Reply g c = subst (λ (o : Outcome). g.D.Draft.gains c.args.draft.now (outcome_text c.args.sent (outcome_seen o)) c.write_took.new.draft) (sym c.in-Reply.is)
    (then g.D.Draft.gains g.met.D.Draft.joins c.push_str.ensures (then g.D.Draft.gains g.met.D.Draft.joins c.write_integer.ensures (rw c.time_between.ensures at c.write_took.ensures)))

pub returns-in-Error : goal.returns-in-Error
returns-in-Error g c = subst (λ (o : Outcome). g.D.Draft.gains c.args.draft.now (outcome_text c.args.sent (outcome_seen o)) c.push_str-in-Error-3.new.self) (sym c.in-Error.is)
    (then g.D.Draft.gains g.met.D.Draft.joins c.push_str-in-Error.ensures (then g.D.Draft.gains g.met.D.Draft.joins c.write_integer-in-Error.ensures
    (then g.D.Draft.gains g.met.D.Draft.joins (rw c.time_between-in-Error.ensures at c.write_took-in-Error.ensures)
    (then g.D.Draft.gains g.met.D.Draft.joins c.push_str-in-Error-2.ensures c.push_str-in-Error-3.ensures))))

pub returns-in-Unwanted : goal.returns-in-Unwanted
returns-in-Unwanted g c = subst (λ (o : Outcome). g.D.Draft.gains c.args.draft.now (outcome_text c.args.sent (outcome_seen o)) c.push_str-in-Unwanted.new.self) (sym c.in-Unwanted.is) c.push_str-in-Unwanted.ensures

pub returns-in-Left : goal.returns-in-Left
returns-in-Left g c = subst (λ (o : Outcome). g.D.Draft.gains c.args.draft.now (outcome_text c.args.sent (outcome_seen o)) c.push_str-in-Left.new.self) (sym c.in-Left.is) c.push_str-in-Left.ensures

pub returns-in-Replaced : goal.returns-in-Replaced
returns-in-Replaced g c = subst (λ (o : Outcome). g.D.Draft.gains c.args.draft.now (outcome_text c.args.sent (outcome_seen o)) c.push_str-in-Replaced.new.self) (sym c.in-Replaced.is) c.push_str-in-Replaced.ensures
