use Rattle.std.proofs.Common.{rules, ◌≡◌, map, ap, ◌∙◌, subst}
use Rattle.std.specs.List.Sorted.{IsPermutation}
use Rattle.std.proofs.lemmas.List.Sorted.{IsPermutation-map, answers_always}
use Rattle.dbus_call_members.specs.Summing.{sums_in}
use Rattle.dbus_call_members.specs.Tables.{goes_before, row_of}
use Rattle.dbus_call_members.proofs.RowLaws.{deref_rows, row, rows_all, rows_distinct, rows_rank, rows_sorted, rows_summed}
use Rattle.dbus_call_members.proofs.table.rows_of.Goals as goal

pub returns : goal.returns
unfolding sums_in
returns c =
    let m = c.args.sums.now.members in
    let chosen : map row_of c.in_ok-rows.rows.items ≡ map row m.entries = deref_rows c.in_ok-rows.rows.items ∙ ap (map row) c.in_ok-rows.ensures in
    let moved = subst (λ l. IsPermutation l (map row_of c.sort_by.new.self.items)) chosen (IsPermutation-map row_of c.in_ok-rows.rows.items c.sort_by.new.self.items c.sort_by.ensures.permutation) in
    record {
      summed = rows_summed m c.args.sums.now.ordered (map row_of c.sort_by.new.self.items) moved;
      all = rows_all m c.args.sums.now.ordered (map row_of c.sort_by.new.self.items) moved;
      distinct = rows_distinct m c.args.sums.now.ordered (map row_of c.sort_by.new.self.items) moved;
      sorted = rows_sorted c.sort_by.new.self.items (c.in_ok-sort_by.ensures.sorted (λ p q. goes_before (row_of p) (row_of q)) rows_rank (answers_always _ _ _ (λ f a r g h. search rules)));
    }
