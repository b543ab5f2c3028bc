use Rattle.std.proofs.Common.{rules, List, sym, ◌∙◌, subst, option_map}
use Rattle.std.proofs.lemmas.Bool.{false≢true}
use Rattle.std.specs.List.{AllByRecursion}
use Rattle.dbus_rule.specs.Rules.{condition_pairs, Pair}
use Rattle.dbus_rule.specs.declared.condition.Condition.{Condition}
use Rattle.dbus_match.specs.TakenFor.{MayHold}
use Rattle.dbus_match.proofs.Decided.{holds_at, one_holds}
use Rattle.dbus_match.proofs.may_matching.each_may_hold.Goals as goal

pub returns-then-not-may_hold : goal.returns-then-not-may_hold
returns-then-not-may_hold g c = λ m w.
    let P : Pair → Type 0 = λ p. MayHold p.key p.value m (option_map (λ s. s.now) c.args.sender) (g.O.KnownOwners.known c.args.owners.now) in (
      λ f. absurd (false≢true f),
      λ h.
          let all = subst (λ (cs : List (Condition _)). AllByRecursion P (condition_pairs cs)) (sym c.conditions-conditions.ensures) h in
          absurd (false≢true (sym c.if-not-may_hold.true ∙ (c.may_hold.ensures m w).1 (holds_at P c.conditions-conditions.result.now c.loop-condition.condition-index c.condition-item.result (search rules) (search rules) all))),
    )

pub loop-condition-preserved : goal.loop-condition-preserved
loop-condition-preserved g c = λ m w.
    let P : Pair → Type 0 = λ p. MayHold p.key p.value m (option_map (λ s. s.now) c.args.sender) (g.O.KnownOwners.known c.args.owners.now) in
    λ h. c.loop-condition.invariant m w (one_holds P c.conditions-conditions.result.now c.loop-condition.condition-index c.condition-item.result (search rules) (search rules) ((c.may_hold.ensures m w).0 c.if-not-may_hold.false) h)
