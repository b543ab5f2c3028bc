use Rattle.std.proofs.Common.{◌≢◌, ℕ, List, option_map, rules, sym, ap, subst, ◌∙◌}
use Rattle.dbus_show.proofs.FieldTexts.{then}
use Rattle.dbus_list.specs.Lines.{about_kind}
use Rattle.dbus_list.specs.Pairs.{call_seen}
use Rattle.dbus_list.proofs.Shown.{other_about}
use Rattle.dbus_list.proofs.about.write_about.Goals as goal

pub returns-in-2 : goal.returns-in-2
returns-in-2 g c = λ order m views typed.
    subst (λ (k : ℕ). g.D.Draft.gains c.args.draft.now (about_kind k c.args.line (option_map call_seen c.args.answered) m) c.write_answered.new.draft) (sym c.in-2.is ∙ c.kind.ensures order m views)
    (then g.D.Draft.gains g.met.D.Draft.joins c.push_str.ensures (c.write_answered.ensures order m views))

pub returns-in-3 : goal.returns-in-3
returns-in-3 g c = λ order m views typed.
    subst (λ (k : ℕ). g.D.Draft.gains c.args.draft.now (about_kind k c.args.line (option_map call_seen c.args.answered) m) c.write_error.new.draft) (sym c.in-3.is ∙ c.kind.ensures order m views)
    (then g.D.Draft.gains g.met.D.Draft.joins c.push_str-in-3.ensures (c.write_error.ensures order m views))

pub returns-in-4 : goal.returns-in-4
returns-in-4 g c = λ order m views typed.
    subst (λ (k : ℕ). g.D.Draft.gains c.args.draft.now (about_kind k c.args.line (option_map call_seen c.args.answered) m) c.write_member.new.draft) (sym c.in-4.is ∙ c.kind.ensures order m views)
    (then g.D.Draft.gains g.met.D.Draft.joins c.push_str-in-4.ensures (c.write_member.ensures order m views typed))

pub returns-in_default : goal.returns-in_default
returns-in_default g c = λ order m views typed.
    let call : c.kind.result ≢ 1 = search rules in
    let reply : c.kind.result ≢ 2 = search rules in
    let error : c.kind.result ≢ 3 = search rules in
    let signal : c.kind.result ≢ 4 = search rules in
    let about = other_about c.kind.result c.args.line (option_map call_seen c.args.answered) m call reply error signal ∙ ap (λ (k : ℕ). about_kind k c.args.line (option_map call_seen c.args.answered) m) (c.kind.ensures order m views) in
    subst (λ (t : List ℕ). g.D.Draft.gains c.args.draft.now t c.write_member-in_default.new.draft) about
    (then g.D.Draft.gains g.met.D.Draft.joins c.push_str-in_default.ensures (then g.D.Draft.gains g.met.D.Draft.joins c.write_integer.ensures
    (then g.D.Draft.gains g.met.D.Draft.joins c.push_str-in_default-2.ensures (c.write_member-in_default.ensures order m views typed))))
