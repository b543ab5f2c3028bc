use Rattle.std.proofs.Common.{rules, ◌≡◌, string_bytes, sym, subst}
use Rattle.std.proofs.Math.Logic.{∥∥₁_map}
use Rattle.dbus_rule.specs.Rules.{SpellsRule, canonical}
use Rattle.dbus_rule.specs.RuleViews.{rule_pairs}
use Rattle.dbus_rule.proofs.Canonical.{canonical_spells}
use Rattle.dbus_rule.proofs.to_text.rule_text.Goals as goal

pub returns-clause-spells : goal.returns-clause-spells
returns-clause-spells g c =
    let ps = rule_pairs c.args.rule.now in
    let e : string_bytes c.in_ok-text.text ≡ canonical ps = search rules in
    ∥∥₁_map c.args.rule.now.is_rule (λ h. subst (λ w. SpellsRule w ps) (sym e) (canonical_spells ps h))
