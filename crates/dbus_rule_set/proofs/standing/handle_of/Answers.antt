use Rattle.std.proofs.Common.{rules, refl, subst, true, ◌≡◌, ◌∙◌, List, arith}
use Rattle.dbus_rule.specs.Rules.{condition_pair, condition_pairs}
use Rattle.dbus_rule.specs.RuleViews.{rule_pairs}
use Rattle.dbus_rule.specs.declared.condition.Condition.{Condition}
use Rattle.dbus_rule_set.specs.declared.handle.RuleHandle.{RuleHandle}
use Rattle.dbus_rule_set.specs.Places.{is_placed}
use Rattle.dbus_rule_set.proofs.Placed.{placed_at, under, under_none}
use Rattle.dbus_rule_set.proofs.standing.handle_of.Goals as goal

pub loop-condition-init : goal.loop-condition-init
loop-condition-init g c = record { kind = omega arith; number = refl; placed = under_none (record { kind = 136; hash = 0; number = c.args.number }) (rule_pairs c.args.rule.now) refl }

pub loop-condition-preserved : goal.loop-condition-preserved
loop-condition-preserved g c =
    let cs = c.conditions-conditions.result.now in
    let l = c.loop-condition in
    let at = c.in-Some.ensures in
    let handle : RuleHandle = record { kind = c.in-Some.kind; hash = c.from.result; number = c.args.number } in
    record {
      kind = omega (arith, at.2);
      number = refl;
      placed = subst (λ (xs : List (Condition _)). is_placed handle (condition_pairs xs) ≡ true) c.conditions-conditions.ensures
          (placed_at handle cs l.condition-index c.condition-item.result (search rules) (search rules) (under handle (condition_pair c.condition-item.result) at.0 at.1 (c.from.ensures ∙ c.place_hash-hash.ensures)));
    }
