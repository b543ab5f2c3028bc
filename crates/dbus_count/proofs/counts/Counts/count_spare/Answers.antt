use Rattle.std.proofs.Common.{◌≡◌, ℕ, List, Option, None, Some, IsSome, rules, sym, subst, ◌∙◌}
use Rattle.std.specs.BTreeMap.{BTreeMap, UpdatesBy, get_by}
use Rattle.std.specs.Map.{lookup}
use Rattle.dbus_count.specs.Counting.{with_name, counting_of, has}
use Rattle.dbus_count.specs.NameOrder.{bytes_of, name_order}
use Rattle.dbus_count.specs.declared.count.Count.{Count}
use Rattle.dbus_count.specs.declared.name.Name.{Name}
use Rattle.dbus_count.proofs.NamedCounts.{found, one_counted}
use Rattle.dbus_count.proofs.counts.Counts.count_spare.Goals as goal

pub returns-in-Some-clause-counted : goal.returns-in-Some-clause-counted
unfolding counting_of
returns-in-Some-clause-counted c = λ name.
    let key = c.args.self.now.spare in
    let m = c.args.self.now.names in
    let n = c.get_mut.follows.lender c.with_one.result in
    let now = c.in-Some.count.now in
    let got : get_by (name_order key) m ≡ Some now = sym c.in-Some.ensures.value in
    let some : IsSome (get_by (name_order key) m) = subst (λ (o : Option Count). IsSome o) (sym got) (search rules) in
    let updates : UpdatesBy name_order (name_order key) m n (Some c.with_one.result) = (c.get_mut.follows.holds c.with_one.result).3 some in
    one_counted key m n (Some now) c.args.size (sym (found key m.entries) ∙ got) (subst (λ (w : Count). UpdatesBy name_order (name_order key) m n (Some w)) c.with_one.ensures updates) name

pub returns-clause-counted : goal.returns-clause-counted
unfolding counting_of
returns-clause-counted c = λ name.
    let spare = c.args.self.now.spare in
    let m = c.args.self.now.names in
    let n = c.insert.new.self in
    let key : Name = record { 0 = c.in_ok-from_str.field-0 } in
    let size = c.args.size in
    let same : bytes_of key ≡ bytes_of spare = c.in_ok-from_str.ensures.ok ∙ c.as_str.ensures.value in
    let none : get_by (name_order spare) m ≡ None = sym c.in_default.ensures.value in
    let was : lookup (has (bytes_of key)) m.entries ≡ None = subst (λ (b : List ℕ). lookup (has b) m.entries ≡ None) (sym same) (sym (found spare m.entries) ∙ none) in
    let updates : UpdatesBy name_order (name_order key) m n (Some c.with_one-2.result) = subst (λ (old : BTreeMap Name Count). UpdatesBy name_order (name_order key) old n (Some c.with_one-2.result)) c.get_mut.follows.holds-at-none c.in_ok-insert.ensures.updates in
    subst (λ (b : List ℕ). lookup (has name) n.entries ≡ with_name b size name (lookup (has name) m.entries)) same
    (one_counted key m n None size was (subst (λ (w : Count). UpdatesBy name_order (name_order key) m n (Some w)) c.with_one-2.ensures updates) name)
