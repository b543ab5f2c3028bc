use Rattle.std.proofs.Common.{ℕ, List, subst}
use Rattle.dbus_show.proofs.FieldTexts.{then}
use Rattle.dbus_list.proofs.about.write_member.Goals as goal

pub returns : goal.returns
returns g c = λ order m views typed.
    let gains = g.D.Draft.gains in
    let joins = g.met.D.Draft.joins in
    let name = subst (λ (t : List ℕ). gains c.write_interface.new.draft t c.push_str.new.self) (c.member_of.ensures order m views) c.push_str.ensures in
    let types = subst (λ (t : List ℕ). gains c.push_code.new.self t c.write_types.new.draft) typed c.write_types.ensures in
    then gains joins (c.write_interface.ensures order m views) (then gains joins name (then gains joins c.push_code.ensures (then gains joins types c.push_code-2.ensures)))
