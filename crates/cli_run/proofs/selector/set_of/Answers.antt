use Rattle.std.proofs.Common.{◌≡◌, ◌+◌, rules, List, [], drop, inl, inr, ⊎_elim, sym, subst}
use Rattle.std.specs.Map.{values_of}
use Rattle.std.proofs.lemmas.List.{drop_all}
use Rattle.dbus_rule.specs.declared.rule.Rule.{Rule}
use Rattle.std.specs.declared.alloc.Global.{Global}
use Rattle.dbus_rule_set.specs.Held.{held}
use Rattle.dbus_rule_set.specs.declared.handle.RuleHandle.{RuleHandle}
use Rattle.cli_options.specs.Selections.{SomeHolds}
use Rattle.cli_run.proofs.RuleSets.{AreAdded, one_added}
use Rattle.cli_run.proofs.selector.set_of.Goals as goal

pub loop-rule-init : goal.loop-rule-init
loop-rule-init c = λ as_bus q m os. (
  λ s. inr s,
  λ t. ⊎_elim (λ a. absurd (subst (λ (es : List (RuleHandle × Rule Global)). SomeHolds as_bus q (values_of es) m os) c.new-set.ensures.empty a)) (λ b. b) t,
)

pub loop-rule-preserved : goal.loop-rule-preserved
loop-rule-preserved c = λ as_bus q m os.
    subst (AreAdded as_bus q m os c.args.rules.now (c.loop-rule.rule-index + 1)) (sym c.in-Ok.ensures.added)
    (one_added as_bus q m os c.args.rules.now c.loop-rule.rule-index c.rule-item.result _ _ (held c.loop-rule.set) (search rules) (search rules) (search rules) c.in-Ok.ensures.unheld (c.loop-rule.invariant as_bus q m os))

pub returns : goal.returns
returns c = λ as_bus q m os.
    let k = c.loop-rule.invariant as_bus q m os in
    let none : drop c.loop-rule.rule-index c.args.rules.now ≡ [] = drop_all c.loop-rule.rule-index c.args.rules.now (search rules) in (
      λ n s. n (k.1 (inl s)),
      λ n s. ⊎_elim n (λ b. subst (λ (l : List (Rule Global)). SomeHolds as_bus q l m os) none b) (k.0 s),
    )
