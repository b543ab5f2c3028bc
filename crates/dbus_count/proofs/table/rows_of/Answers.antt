use Rattle.std.proofs.Common.{rules, ◌≡◌, map, ap, ◌∙◌, subst}
use Rattle.std.specs.List.{filter}
use Rattle.std.specs.List.Sorted.{IsPermutation}
use Rattle.std.specs.Map.Iter.{deref_pair}
use Rattle.std.proofs.lemmas.List.Sorted.{IsPermutation-map, answers_always}
use Rattle.dbus_count.specs.Counting.{counting_of}
use Rattle.dbus_count.specs.Tables.{goes_before, row_of}
use Rattle.dbus_count.proofs.RowLaws.{begins, row, filter_rows, deref_rows, rows_counted, rows_all, rows_distinct, rows_rank, rows_sorted}
use Rattle.dbus_count.proofs.table.rows_of.Goals as goal

pub returns : goal.returns
unfolding counting_of
returns c =
    let m = c.args.counts.now.names in
    let word = c.args.word.now in
    let is : map deref_pair c.in_ok-rows.rows.items ≡ filter (λ e. begins word (row e)) m.entries = c.in_ok-rows.ensures in
    let chosen : map row_of c.in_ok-rows.rows.items ≡ filter (begins word) (map row m.entries) = deref_rows c.in_ok-rows.rows.items ∙ (ap (map row) is ∙ filter_rows word m.entries) in
    let moved = subst (λ l. IsPermutation l (map row_of c.sort_by.new.self.items)) chosen (IsPermutation-map row_of c.in_ok-rows.rows.items c.sort_by.new.self.items c.sort_by.ensures.permutation) in
    record {
      counted = rows_counted m c.args.counts.now.ordered word (map row_of c.sort_by.new.self.items) moved;
      all = rows_all m c.args.counts.now.ordered word (map row_of c.sort_by.new.self.items) moved;
      distinct = rows_distinct m c.args.counts.now.ordered word (map row_of c.sort_by.new.self.items) moved;
      sorted = rows_sorted c.sort_by.new.self.items (c.in_ok-sort_by.ensures.sorted (λ p q. goes_before (row_of p) (row_of q)) rows_rank (answers_always _ _ _ (λ f a r g h. search rules)));
    }
