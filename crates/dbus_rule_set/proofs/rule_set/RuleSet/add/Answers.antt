use Rattle.std.proofs.Common.{◌+◌, sym, subst, arith}
use Rattle.std.specs.List.{AllByRecursion}
use Rattle.dbus_rule_set.specs.Places.{IsIndexed, IsKept}
use Rattle.dbus_rule_set.proofs.Kept.{unheld, with_more}
use Rattle.dbus_rule_set.proofs.rule_set.RuleSet.add.Goals as goal

pub invariant_of-self : goal.invariant_of-self
invariant_of-self g c =
    let n = c.args.self.now.next in
    let h = c.handle_of-handle in
    let es = c.args.self.now.rules.entries in
    let kinds = c.mark.new.self in
    let kept = c.args.self.now.kept in
    record {
      ordered = c.insert.ensures.ordered;
      kept = subst (AllByRecursion (IsKept (n + 1))) (sym c.in-Ok.ensures.entries)
          (with_more (IsKept n) (IsKept (n + 1)) n h.result c.args.rule es (λ e k. omega (arith, k)) (omega (arith, h.ensures.number)) h.ensures.number kept kept);
      indexed = subst (AllByRecursion (IsIndexed kinds)) (sym c.in-Ok.ensures.entries)
          (with_more (IsIndexed c.args.self.now.kinds) (IsIndexed kinds) n h.result c.args.rule es (λ e k. (c.mark.ensures.up e.0.kind k.0, k.1)) (c.mark.ensures.here, (h.ensures.kind, h.ensures.placed)) h.ensures.number kept c.args.self.now.indexed);
    }

pub returns-in-Ok-clause-unheld : goal.returns-in-Ok-clause-unheld
returns-in-Ok-clause-unheld g c =
    unheld c.args.self.now.next c.handle_of-handle.result c.args.self.now.rules.entries c.handle_of-handle.ensures.number c.args.self.now.kept
