use Rattle.std.proofs.Common.{rules, List, sym, ◌∙◌, subst}
use Rattle.std.proofs.lemmas.Bool.{false≢true}
use Rattle.std.specs.List.{AllByRecursion}
use Rattle.dbus_match.specs.Matching.{OtherHolds}
use Rattle.dbus_rule.specs.Rules.{condition_pairs, Pair}
use Rattle.dbus_rule.specs.declared.condition.Condition.{Condition}
use Rattle.dbus_match.proofs.Decided.{holds_at, one_holds}
use Rattle.dbus_match.proofs.view_matching.others_hold.Goals as goal

pub returns-then-not-other_holds : goal.returns-then-not-other_holds
returns-then-not-other_holds g c = λ order m w.
    let P : Pair → Type 0 = λ p. OtherHolds p.key p.value m in (
      λ f. absurd (false≢true f),
      λ h.
          let all = subst (λ (cs : List (Condition _)). AllByRecursion P (condition_pairs cs)) (sym c.conditions-conditions.ensures) h in
          absurd (false≢true (sym c.if-not-other_holds.true ∙ (c.other_holds.ensures order m w).1 (holds_at P c.conditions-conditions.result.now c.loop-condition.condition-index c.condition-item.result (search rules) (search rules) all))),
    )

pub loop-condition-preserved : goal.loop-condition-preserved
loop-condition-preserved g c = λ order m w.
    let P : Pair → Type 0 = λ p. OtherHolds p.key p.value m in
    λ h. c.loop-condition.invariant order m w (one_holds P c.conditions-conditions.result.now c.loop-condition.condition-index c.condition-item.result (search rules) (search rules) ((c.other_holds.ensures order m w).0 c.if-not-other_holds.false) h)
