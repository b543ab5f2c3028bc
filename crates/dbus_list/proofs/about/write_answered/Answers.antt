use Rattle.std.proofs.Common.{ℕ, Option, decimal, option_map, sym, subst}
use Rattle.dbus_show.proofs.FieldTexts.{then}
use Rattle.dbus_list.specs.Lines.{answered_part}
use Rattle.dbus_list.specs.Pairs.{call_seen}
use Rattle.dbus_list.specs.declared.known_call.AnsweredCall.{AnsweredCall}
use Rattle.dbus_list.proofs.about.write_answered.Goals as goal

pub returns-in-Some : goal.returns-in-Some
returns-in-Some g c = λ order m views.
    subst (λ (o : Option AnsweredCall). g.D.Draft.gains c.args.draft.now (answered_part (option_map call_seen o) m) c.write_known.new.draft) (sym c.in-Some.is) c.write_known.ensures

pub returns-in-None : goal.returns-in-None
returns-in-None g c = λ order m views.
    subst (λ (o : Option AnsweredCall). g.D.Draft.gains c.args.draft.now (answered_part (option_map call_seen o) m) c.write_integer.new.draft) (sym c.in-None.is)
    (then g.D.Draft.gains g.met.D.Draft.joins c.push_str.ensures
    (subst (λ (n : ℕ). g.D.Draft.gains c.push_str.new.self (decimal n) c.write_integer.new.draft) (c.reply_serial_of.ensures order m views) c.write_integer.ensures))
