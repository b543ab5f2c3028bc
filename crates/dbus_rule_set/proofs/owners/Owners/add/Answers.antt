use Rattle.std.proofs.Common.{arith, sym, ◌∙◌}
use Rattle.std.specs.FinSet.{insert}
use Rattle.std.proofs.lemmas.Slice.Eq.{bytes_eq-Decides}
use Rattle.dbus_rule_set.specs.Groups.{owners_by}
use Rattle.dbus_rule_set.proofs.OwnerSets.{contains_more, held, pair, same_owners}
use Rattle.dbus_rule_set.proofs.owners.Owners.add.Goals as goal

pub returns-then-has-clause-added : goal.returns-then-has-clause-added
returns-then-has-clause-added c = rw (← c.self.view_is) (
    let name = c.args.name.now in
    let unique = c.args.unique.now in
    let before = c.self.inside.by_name in
    same_owners before c.self.invariant.ordered (insert (owners_by before) (pair name unique))
    (λ n u. let more = contains_more (owners_by before) name unique n u in let is = held before c.self.invariant.ordered n u in
    let names = bytes_eq-Decides name n in let uniques = bytes_eq-Decides unique u in grind (arith)))

pub returns-then-is_err-clause-unchanged : goal.returns-then-is_err-clause-unchanged
returns-then-is_err-clause-unchanged c = rw (← c.self.view_is) (
    let before = c.self.inside.by_name in
    same_owners c.join-2.new.groups c.join-2.ensures.ordered (owners_by before)
    (λ n u. let is = held before c.self.invariant.ordered n u in grind (arith)))

pub returns-clause-added : goal.returns-clause-added
returns-clause-added c = rw (← c.self.view_is) (
    let name = c.args.name.now in
    let unique = c.args.unique.now in
    let before = c.self.inside.by_name in
    same_owners c.join-2.new.groups c.join-2.ensures.ordered (insert (owners_by before) (pair name unique))
    (λ n u. let more = contains_more (owners_by before) name unique n u in let is = held before c.self.invariant.ordered n u in grind (arith)))
