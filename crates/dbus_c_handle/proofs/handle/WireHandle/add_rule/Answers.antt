use Rattle.std.proofs.Common.{rules, ◌≡◌, Option, Some, MatchResult, ap, sym, subst}
use Rattle.dbus_rule.specs.RuleViews.{IsRuleFault}
use Rattle.dbus_c_handle.specs.Rules.{Adds, KeepsAll}
use Rattle.dbus_c_handle.specs.declared.kept.Kept.{Kept}
use Rattle.dbus_c_handle.proofs.Steps.{added_to}
use Rattle.dbus_c_handle.proofs.handle.WireHandle.add_rule.Goals as goal

pub returns : goal.returns
returns c =
    let before = c.args.self.now.state in
    let w = c.args.text.now in
    let given = c.deref_mut.result.now in
    let is : given ≡ c.in_ok-kept.kept.value = search rules in
    let new : Some c.add_to-added.new.kept ≡ c.of.result.state = search rules in
    subst (λ (o : Option Kept). MatchResult c.add_to-added.result (Adds w before o) (λ fault. IsRuleFault w fault × KeepsAll before o)) new
    (added_to w c.in_ok-rule.rule before (Some given) (Some c.add_to-added.new.kept) c.in_ok-rule.ensures.reading
    (subst (λ (o : Option Kept). KeepsAll before o) (ap Some (sym is)) c.in_ok-kept.ensures) c.add_to-added.result c.add_to-added.ensures)
