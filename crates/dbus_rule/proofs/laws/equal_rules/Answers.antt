use Rattle.dbus_rule.proofs.SortedConditions.{rules_equal}
use Rattle.dbus_rule.proofs.laws.equal_rules.Goals as goal

pub returns : goal.returns
returns g c =
    let e = c.eq.ensures in
    rw e (rules_equal c.args.a.now c.args.b.now)
