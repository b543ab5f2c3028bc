use Rattle.std.proofs.Common.{◌≡◌, ℕ, List, length, ap, subst, sym, ◌∙◌}
use Rattle.dbus_rule_set.specs.declared.handle.RuleHandle.{RuleHandle}
use Rattle.dbus_c_handle.specs.Rules.{rules_of}
use Rattle.dbus_c.specs.Checking.{IsChecked}
use Rattle.dbus_c.specs.GivenLimits.{limits_of}
use Rattle.dbus_c.specs.Outcomes.{with_room}
use Rattle.dbus_c.specs.Rules.{TellsAll, TellsMatching}
use Rattle.dbus_c.proofs.Outcomes.{not_told, with_memory_same, with_room_same}
use Rattle.dbus_c.proofs.RuleTelling.{all_told, found_told, nothing_found}
use Rattle.dbus_c.proofs.rules.dbus_wire_rules_matching.Goals as goal

pub returns-in-Err-clause-checked : goal.returns-in-Err-clause-checked
returns-in-Err-clause-checked c =
    let answer = c.in-Err.answer in
    let same = ap with_room (with_memory_same answer c.in-Err.ensures.most) ∙ with_room_same answer c.in-Err.ensures.most in
    subst (λ (n : ℕ). IsChecked (limits_of c.args.limits.now) c.args.bytes.now n c.first_validated.new.told) (sym same) c.in-Err.ensures.checked

pub returns-in-Err-clause-matching : goal.returns-in-Err-clause-matching
returns-in-Err-clause-matching c =
    nothing_found c.args.rules.now.state (limits_of c.args.limits.now) c.args.bytes.now c.args.ids.now c.args.count.now
    c.in-Err.answer (not_told c.in-Err.answer c.in-Err.ensures.most c.in-Err.ensures.none)

pub returns-in_default-clause-matching : goal.returns-in_default-clause-matching
returns-in_default-clause-matching c =
    nothing_found c.args.rules.now.state (limits_of c.args.limits.now) c.args.bytes.now c.args.ids.now c.args.count.now 3 (λ told. absurd cc)

pub returns-clause-matching : goal.returns-clause-matching
returns-clause-matching c =
    let own = c.args.rules.now.state in
    let rules = rules_of own in
    let limits = limits_of c.args.limits.now in
    let ids = c.args.ids.now in
    let count = c.args.count.now in
    let found = c.in-Ok-matching.found.items in
    let answer = c.tell_all.result in
    let new = c.tell_all.new.room in
    let counted : c.len.result ≡ length found = search rules in
    let told = subst (λ (hs : List RuleHandle). TellsAll hs answer ids new) c.deref.ensures.value c.tell_all.ensures in
    subst (λ (n : ℕ). TellsMatching own limits c.args.bytes.now answer ids new count n) (sym counted)
    (found_told own limits c.args.bytes.now ids count c.first_view-view.result c.first_view-view.ensures.viewed found c.in-Ok-matching.ensures.found answer new told)

pub returns-clause-checked : goal.returns-clause-checked
returns-clause-checked c =
    let all = all_told _ c.tell_all.result _ _ c.tell_all.ensures in
    let same = ap with_room all.1 ∙ all.0 in
    subst (λ (n : ℕ). IsChecked (limits_of c.args.limits.now) c.args.bytes.now n c.first_validated.new.told) (sym same) c.in-Ok.ensures.checked
