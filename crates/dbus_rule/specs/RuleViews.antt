-- A rule as its list of key and value pairs in canonical order, and what the reading of a text
-- answers. D-Bus Specification, "Match Rules".
use Rattle.std.specs.Prelude.{ℕ, List, ◌≡◌, ◌⊎◌, Result, Ok, Err}
use Rattle.dbus_rule.specs.declared.fault.RuleFault.{RuleFault}
use Rattle.dbus_rule.specs.declared.fault.RuleFault.TheVariants.{Memory, Bad}
use Rattle.dbus_rule.specs.Faults.{IsFault}
use Rattle.dbus_rule.specs.declared.rule.Rule.{Rule}
use Rattle.dbus_rule.specs.declared.fault.RuleReason.{RuleReason}
use Rattle.dbus_rule.specs.Rules.{Pair, SpellsRule, condition_pairs}

-- What the reading of a rule's text answers.
-- D-Bus Specification, "Match Rules".

-- the fault of a text; want of memory says nothing of it
abbrev pub IsRuleFault : List ℕ → RuleFault → Type 0
IsRuleFault w Memory = Unit {0}
IsRuleFault w (Bad at reason) = IsFault w reason at

abbrev pub rule_pairs : {A : Type 0} → Rule A → List Pair
rule_pairs r = condition_pairs r.conditions.items

-- the two have the same keys with the same values
abbrev pub AreSameRule : {A B : Type 0} → Rule A → Rule B → Type 0
AreSameRule r s = rule_pairs r ≡ rule_pairs s

-- the rule that the text spells, or the text's fault
abbrev pub IsRuleReading : {A : Type 0} → List ℕ → Result (Rule A) RuleFault → Type 0
IsRuleReading w (Ok r) = SpellsRule w (rule_pairs r)
IsRuleReading w (Err e) = IsRuleFault w e

-- this rule; or memory was wanted
abbrev pub IsThisRule : {A : Type 0} → List Pair → Result (Rule A) RuleFault → Type 0
IsThisRule ps (Ok r) = rule_pairs r ≡ ps
IsThisRule ps (Err e) = e ≡ Memory

-- this fault; or memory was wanted
abbrev pub IsThisFault : {A : Type 0} → RuleReason → ℕ → Result (Rule A) RuleFault → Type 0
IsThisFault reason at (Ok r) = ⊥
IsThisFault reason at (Err e) = (e ≡ Memory) ⊎ (e ≡ Bad at reason)
