use Rattle.std.proofs.Common.{◌≡◌, [], refl, sym, subst}
use Rattle.std.specs.Map.Iter.{deref_pair}
use Rattle.std.proofs.lemmas.Map.Iter.{rest_all}
use Rattle.dbus_rule_set.specs.Held.{Collects, EntryMatches}
use Rattle.dbus_rule_set.proofs.search.ask_each.Goals as goal

pub returns-clause-found : goal.returns-clause-found
returns-clause-found g c = λ order m v.
    let l = c.loop-handle in
    let P = EntryMatches c.args.asked.now.as_bus m c.args.asked.now.owners.now in
    let found = g.V.RuleVisitor.gathered l.visitor in
    let none : l.handle-iterator ≡ [] =
    rest_all deref_pair l.handle-iterator c.next.new.self c.next.result c.in-None.is c.next.ensures.steps in
    l.invariant.found order m v found (subst (λ es. Collects P es found found) (sym none) refl)
