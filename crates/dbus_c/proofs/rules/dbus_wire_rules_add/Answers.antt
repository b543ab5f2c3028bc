use Rattle.std.proofs.Common.{rules, ◌≡◌, List, ℕ, refl, ap, subst, ◌∙◌}
use Rattle.dbus_rule.specs.Faults.{IsFault}
use Rattle.dbus_rule.specs.RuleViews.{IsRuleFault}
use Rattle.dbus_rule.specs.declared.fault.RuleFault.{RuleFault}
use Rattle.dbus_rule.specs.declared.fault.RuleFault.TheVariants.{Bad}
use Rattle.dbus_c.specs.Rules.{added, faulty, rule_fault_told}
use Rattle.dbus_c_handle.specs.Rules.{Adds}
use Rattle.dbus_c.proofs.rules.dbus_wire_rules_add.Goals as goal

pub returns-in-Ok-added : goal.returns-in-Ok-added
returns-in-Ok-added c =
    let text = c.in-Ok.ensures.cases in
    let before = c.args.rules.now.state in
    let new = c.add_rule-added.new.self.state in
    added text.1 (subst (λ (w : List ℕ). Adds w before new c.in-Ok-added.handle) text.0 c.in-Ok-added.ensures) refl refl

pub returns-in-Err-Bad : goal.returns-in-Err-Bad
returns-in-Err-Bad c =
    let bad = c.in-Err-Bad in
    let text = c.in-Ok.ensures.cases in
    let read = rw bad.is at c.add_rule-added.ensures in
    let is : bad.field-0 ≡ Bad bad.at bad.reason = search rules in
    let fault = subst (λ (f : RuleFault). IsRuleFault c.in-Ok.text.now f) is read.0 in
    faulty bad.reason bad.at (subst (λ (w : List ℕ). IsFault w bad.reason bad.at) text.0 fault) text.1 read.1 refl refl (c.fault_at-in-Err-Bad.ensures ∙ ap (rule_fault_told bad.at) c.rule_reason_number.ensures)
