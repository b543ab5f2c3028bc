use Rattle.std.proofs.Common.{[], ◌∷◌, codes}
use Rattle.dbus_count.specs.Counting.{counting_of}
use Rattle.dbus_count.proofs.NameSteps.{on_ok}
use Rattle.dbus_count.proofs.RowLaws.{more_tables, no_tables}
use Rattle.dbus_count.proofs.table.write_tables.Goals as goal

pub returns : goal.returns
returns g c = on_ok c.write_table-6.result (λ last.
    let gains = g.D.Draft.gains in
    let joins = g.met.D.Draft.joins in
    let form = c.args.form in
    let counts = counting_of c.args.counts.now in
    let d0 = c.args.draft.now in
    let d1 = c.write_table.new.draft in
    let d2 = c.write_table-2.new.draft in
    let d3 = c.write_table-3.new.draft in
    let d4 = c.write_table-4.new.draft in
    let d5 = c.write_table-5.new.draft in
    let d6 = c.write_table-6.new.draft in
    more_tables gains joins form counts (codes "type") (codes "sender" ∷ codes "destination" ∷ codes "interface" ∷ codes "member" ∷ codes "error" ∷ []) d0 d1 d6 c.in_ok-write_table.ensures
    (more_tables gains joins form counts (codes "sender") (codes "destination" ∷ codes "interface" ∷ codes "member" ∷ codes "error" ∷ []) d1 d2 d6 c.in_ok-write_table-2.ensures
    (more_tables gains joins form counts (codes "destination") (codes "interface" ∷ codes "member" ∷ codes "error" ∷ []) d2 d3 d6 c.in_ok-write_table-3.ensures
    (more_tables gains joins form counts (codes "interface") (codes "member" ∷ codes "error" ∷ []) d3 d4 d6 c.in_ok-write_table-4.ensures
    (more_tables gains joins form counts (codes "member") (codes "error" ∷ []) d4 d5 d6 c.in_ok-write_table-5.ensures
    (more_tables gains joins form counts (codes "error") [] d5 d6 d6 last (no_tables gains joins form counts d6 (g.met.D.Draft.nothing d6)))))))) c.write_table-6.ensures
