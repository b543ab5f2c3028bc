use Rattle.std.proofs.Common.{Bool, [], sym, subst}
use Rattle.std.specs.Bool.{Decides}
use Rattle.dbus_rule_set.specs.Held.{EntryMatches, HoldsOfAny}
use Rattle.dbus_rule_set.proofs.Collected.{stopped_decides}
use Rattle.dbus_rule_set.proofs.rule_set.RuleSet.any_matches.Goals as goal

pub returns : goal.returns
returns g c = λ order m v.
    let P = EntryMatches c.args.self.now.as_bus m c.args.owners.now in
    let es = c.args.self.now.rules.entries in
    subst (λ (b : Bool). Decides b (HoldsOfAny P es)) (sym c.is_err.ensures.value)
    (stopped_decides P es [] c.search.result (c.search.ensures.found order m v) (c.search.ensures.stopped order m v))
