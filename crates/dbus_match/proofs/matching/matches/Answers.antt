use Rattle.std.proofs.Common.{rules, List, sym, ◌∙◌, subst}
use Rattle.std.proofs.lemmas.Bool.{false≢true}
use Rattle.std.specs.List.{AllByRecursion}
use Rattle.dbus_message_model.specs.MessageViews.{message_tree}
use Rattle.dbus_match.specs.Matching.{HoldsAt, ownerships}
use Rattle.dbus_rule.specs.Rules.{condition_pairs, Pair}
use Rattle.dbus_rule.specs.declared.condition.Condition.{Condition}
use Rattle.dbus_match.proofs.Decided.{holds_at, one_holds}
use Rattle.dbus_match.proofs.matching.matches.Goals as goal

pub returns-then-not-holds : goal.returns-then-not-holds
returns-then-not-holds g c =
    let P : Pair → Type 0 = λ p. HoldsAt p.key p.value (message_tree c.args.message.now) (ownerships c.args.owners.now) in (
      λ f. absurd (false≢true f),
      λ h.
          let all = subst (λ (cs : List (Condition _)). AllByRecursion P (condition_pairs cs)) (sym c.conditions-conditions.ensures) h in
          absurd (false≢true (sym c.if-not-holds.true ∙ c.holds.ensures.1 (holds_at P c.conditions-conditions.result.now c.loop-condition.condition-index c.condition-item.result (search rules) (search rules) all))),
    )

pub loop-condition-preserved : goal.loop-condition-preserved
loop-condition-preserved g c =
    let P : Pair → Type 0 = λ p. HoldsAt p.key p.value (message_tree c.args.message.now) (ownerships c.args.owners.now) in
    λ h. c.loop-condition.invariant (one_holds P c.conditions-conditions.result.now c.loop-condition.condition-index c.condition-item.result (search rules) (search rules) (c.holds.ensures.0 c.if-not-holds.false) h)
