use Rattle.std.proofs.Common.{ℕ, List, ◌++◌, codes, sym, subst, ap, ◌∙◌}
use Rattle.dbus_show.proofs.FieldTexts.{then}
use Rattle.dbus_list.proofs.Ends.{short_cut}
use Rattle.dbus_list.proofs.columns.write_short.Goals as goal

pub returns-clause-written : goal.returns-clause-written
returns-clause-written g c =
    let all = ap (λ (t : List ℕ). codes "~" ++ t) c.short_end-end.ensures ∙ sym (short_cut c.args.most c.args.name.now c.if-name-most.false) in
    subst (λ (t : List ℕ). g.D.Draft.gains c.args.draft.now t c.push_str-2.new.self) all (then g.D.Draft.gains g.met.D.Draft.joins c.push_code.ensures c.push_str-2.ensures)
