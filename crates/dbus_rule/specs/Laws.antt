-- The laws of rules: a text spells one rule or has one fault, and never both; and the canonical
-- text of a rule spells it. D-Bus Specification, "Match Rules".
use Rattle.std.specs.Prelude.{◌≡◌, ◌⊎◌, ℕ, List}
use Rattle.dbus_rule.specs.declared.fault.RuleReason.{RuleReason}
use Rattle.dbus_rule.specs.Rules.{Pair, IsRule, SpellsRule, canonical}
use Rattle.dbus_rule.specs.Faults.{IsFault}

-- a text spells at most one rule
abbrev pub OneRule : Type 0
OneRule = (w : List ℕ) (r s : List Pair) → SpellsRule w r → SpellsRule w s → r ≡ s

-- the canonical text of a rule spells it
abbrev pub CanonicalSpells : Type 0
CanonicalSpells = (r : List Pair) → IsRule r → SpellsRule (canonical r) r

-- a text has at most one fault, at one place
abbrev pub OneFault : Type 0
OneFault = (w : List ℕ) (r s : RuleReason) (m n : ℕ) → IsFault w r m → IsFault w s n → (r ≡ s) × (m ≡ n)

-- each text spells a rule or has a fault
abbrev pub SomeReading : Type 0
SomeReading = (w : List ℕ) → ((r : List Pair) × SpellsRule w r) ⊎ ((reason : RuleReason) × (at : ℕ) × IsFault w reason at)

-- no text spells a rule and has a fault
abbrev pub NotBoth : Type 0
NotBoth = (w : List ℕ) (r : List Pair) (reason : RuleReason) (at : ℕ) → SpellsRule w r → IsFault w reason at → ⊥
