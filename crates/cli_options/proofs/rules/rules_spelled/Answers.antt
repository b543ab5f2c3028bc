use Rattle.std.proofs.Common.{◌≡◌, ◌++◌, ◌+◌, ◌∷◌, List, map, take, drop, get_or, rules, refl, sym, subst, true}
use Rattle.std.specs.Borrow.{Bor}
use Rattle.std.specs.declared.alloc.Global.{Global}
use Rattle.std.specs.Result.{is_ok}
use Rattle.clap.specs.Words.{Text}
use Rattle.dbus_rule.specs.declared.rule.Rule.{Rule}
use Rattle.dbus_rule.specs.Rules.{Pair, SpellsRule}
use Rattle.dbus_rule.specs.RuleViews.{IsRuleFault, rule_pairs}
use Rattle.dbus_rule.specs.declared.fault.RuleFault.TheVariants.{Bad}
use Rattle.cli_options.specs.Named.{AreRulesOf}
use Rattle.cli_options.proofs.Numbers.{each_can, one_more_gives, parted, past_end}
use Rattle.cli_options.proofs.rules.rules_spelled.Goals as goal

abbrev text_of : Bor Text → Text
text_of t = t.now

pub returns-in-Err-Bad : goal.returns-in-Err-Bad
returns-in-Err-Bad c =
    let texts = c.args.texts.now in
    let i = c.loop-text.text-index in
    let copied = sym c.in-Ok-from_str.ensures.ok in
    rw c.in-Err-Bad.field-0-is (
      record {
        before = map text_of (take i texts);
        after = map text_of (drop (i + 1) texts);
        texts_are = subst (λ t. map text_of texts ≡ map text_of (take i texts) ++ t ∷ map text_of (drop (i + 1) texts)) copied (parted text_of texts i past_end (search rules));
        rules = each_can (λ (text : Text) (rule : Rule Global). SpellsRule text (rule_pairs rule)) (λ text. (pairs : List Pair) × SpellsRule text pairs) (λ text rule is. (rule_pairs rule, is))
            (map text_of (take i texts)) c.loop-text.rules.items c.loop-text.invariant;
        fault = subst (λ t. IsRuleFault t (Bad c.in-Err-Bad.at c.in-Err-Bad.reason)) copied
            (subst (λ e. IsRuleFault (get_or texts i past_end).now e) c.in-Err-Bad.field-0-is c.in-Err-Bad.ensures.reading);
      },
      refl,
    )

pub loop-text-preserved : goal.loop-text-preserved
loop-text-preserved c =
    let texts = c.args.texts.now in
    let i = c.loop-text.text-index in
    let ok : is_ok c.push.result ≡ true = search rules in
    let items = rw ok at c.push.ensures.items in
    subst (λ rules. AreRulesOf (map text_of (take (i + 1) texts)) rules) (sym items)
    (one_more_gives text_of texts i past_end (search rules) (λ (text : Text) (rule : Rule Global). SpellsRule text (rule_pairs rule)) c.loop-text.rules.items c.in-Ok.rule c.loop-text.invariant c.in-Ok.ensures.reading)
