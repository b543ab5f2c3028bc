use Rattle.std.proofs.Common.{rules, ℕ, Bool, List, Some, if◌then◌else◌, drop, ◌+◌, sym, ap, ◌∙◌, string_bytes}
use Rattle.dbus_rule.specs.Rules.{condition_pairs, sender_of}
use Rattle.dbus_rule.proofs.SortedConditions.{sender_step, sender_end}
use Rattle.dbus_rule.proofs.rule_values.sender_at.Goals as goal

pub returns-then-is_sender : goal.returns-then-is_sender
returns-then-is_sender g c =
    let cs = c.args.conditions.now in
    let i = c.loop-condition.condition-index in
    let x = c.condition-item.result in
    sym (c.loop-condition.invariant ∙ sender_step cs i x (search rules) (search rules)
    ∙ ap (λ (b : Bool). if b then Some (string_bytes x.value) else sender_of (condition_pairs (drop (i + 1) cs))) (sym c.is_sender.ensures ∙ c.if-is_sender.true)
    ∙ ap (λ (v : List ℕ). Some v) (sym c.as_str.ensures.value))

pub loop-condition-preserved : goal.loop-condition-preserved
loop-condition-preserved g c =
    let cs = c.args.conditions.now in
    let i = c.loop-condition.condition-index in
    let x = c.condition-item.result in
    c.loop-condition.invariant ∙ sender_step cs i x (search rules) (search rules)
    ∙ ap (λ (b : Bool). if b then Some (string_bytes x.value) else sender_of (condition_pairs (drop (i + 1) cs))) (sym c.is_sender.ensures ∙ c.if-is_sender.false)

pub returns : goal.returns
returns g c = sym (c.loop-condition.invariant ∙ sender_end c.args.conditions.now c.loop-condition.condition-index (search rules))
