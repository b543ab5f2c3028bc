use Rattle.std.proofs.Common.{sym, subst}
use Rattle.std.specs.BTreeMap.{is_at}
use Rattle.std.specs.List.{AllByRecursion}
use Rattle.dbus_rule_set.specs.Places.{IsIndexed, IsKept}
use Rattle.dbus_rule_set.specs.Handles.{handle_cmp}
use Rattle.dbus_rule_set.proofs.Kept.{kept_less}
use Rattle.dbus_rule_set.proofs.rule_set.RuleSet.remove.Goals as goal

pub invariant_of-self : goal.invariant_of-self
invariant_of-self g c =
    let n = c.args.self.now.next in
    record {
      ordered = c.remove.ensures.ordered;
      kept = subst (AllByRecursion (IsKept n)) (sym c.remove.ensures.entries) (kept_less (IsKept n) (is_at (handle_cmp c.args.handle)) c.args.self.now.rules.entries c.args.self.now.kept);
      indexed = subst (AllByRecursion (IsIndexed c.args.self.now.kinds)) (sym c.remove.ensures.entries) (kept_less (IsIndexed c.args.self.now.kinds) (is_at (handle_cmp c.args.handle)) c.args.self.now.rules.entries c.args.self.now.indexed);
    }
