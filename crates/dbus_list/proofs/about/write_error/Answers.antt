use Rattle.std.proofs.Common.{ℕ, List, subst}
use Rattle.dbus_show.proofs.FieldTexts.{then}
use Rattle.dbus_list.specs.Columns.{name_cells, short}
use Rattle.dbus_list.proofs.about.write_error.Goals as goal

pub returns : goal.returns
returns g c = λ order m views.
    let gains = g.D.Draft.gains in
    let joins = g.met.D.Draft.joins in
    let cells = subst (λ (n : ℕ). gains c.args.draft.now (short n c.error_name_of.result.now) c.write_short.new.draft) c.name_cells.ensures c.write_short.ensures.written in
    let name = subst (λ (t : List ℕ). gains c.args.draft.now (short (name_cells c.args.line) t) c.write_short.new.draft) (c.error_name_of.ensures order m views) cells in
    then gains joins name (then gains joins c.push_str.ensures (c.write_answered.ensures order m views))
