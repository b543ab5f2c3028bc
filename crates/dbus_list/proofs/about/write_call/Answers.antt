use Rattle.std.proofs.Common.{ℕ, List, ◌++◌, codes, sym, subst}
use Rattle.dbus_calls.specs.Events.{wants_reply}
use Rattle.dbus_show.proofs.FieldTexts.{then}
use Rattle.dbus_list.specs.Lines.{member_of}
use Rattle.dbus_list.proofs.CutTexts.{passed}
use Rattle.dbus_list.proofs.Shown.{unwanted}
use Rattle.dbus_list.proofs.about.write_call.Goals as goal

pub returns-then-flags-ne0 : goal.returns-then-flags-ne0
returns-then-flags-ne0 g c = λ order m views typed.
    let member = member_of c.args.line m in
    let no = unwanted c.flags.result m (c.flags.ensures order m views) c.if-flags-ne0.true in
    subst (λ (t : List ℕ). g.D.Draft.gains c.args.draft.now t c.push_str.new.self) (sym (passed (wants_reply m) member (member ++ codes " no reply wanted") no))
    (then g.D.Draft.gains g.met.D.Draft.joins (c.write_member.ensures order m views typed) c.push_str.ensures)
