-- What the reading of a pair's parts answers.
-- D-Bus Specification, "Match Rules".
use Rattle.std.specs.Prelude.{◌≡◌, ℕ, ◌+◌, List, [], ◌∷◌, ◌++◌, length, drop, Option, Some, None, Result, Ok, Err, ◌==◌, if◌then◌else◌}
use Rattle.dbus_rule.specs.declared.key.Key.{Key}
use Rattle.dbus_rule.specs.declared.fault.RuleFault.{RuleFault}
use Rattle.dbus_rule.specs.declared.fault.RuleFault.TheVariants.{Memory, Bad}
use Rattle.dbus_rule.specs.declared.fault.RuleReason.{RuleReason}
use Rattle.dbus_rule.specs.declared.fault.RuleReason.TheVariants.{KeyTwice, PathAndNamespace, OpenQuote}
use Rattle.dbus_rule.specs.Keys.{key_text, IsKey, IsValueOf}
use Rattle.dbus_rule.specs.Values.{IsOpen, IsClosed}
use Rattle.dbus_rule.specs.Rules.{Pair, HasKey}
use Rattle.dbus_rule.specs.Faults.{Excluded, IsNew, IsPairFault}

-- where a name ends: at `=`, or without one at a comma or the text's end
pub data NameCut : Type 0 where
  equals_at : ℕ → NameCut
  none_at : ℕ → NameCut

abbrev pub name_cut : ℕ → List ℕ → NameCut
name_cut n [] = none_at n
name_cut n (b ∷ c) = if b == 61 then equals_at n else (if b == 44 then none_at n else name_cut (n + 1) c)

abbrev pub name_cut_of : Result ℕ ℕ → NameCut
name_cut_of (Ok n) = equals_at n
name_cut_of (Err n) = none_at n

-- whether a key may stand after the pairs seen, and if not, why
abbrev pub IsClash : List Pair → Key → Option RuleReason → Type 0
IsClash seen key None = IsNew seen key
IsClash seen key (Some KeyTwice) = HasKey key seen
IsClash seen key (Some PathAndNamespace) = (HasKey key seen → ⊥) × Excluded key seen
IsClash seen key (Some r) = ⊥

-- in the text w a value's text begins at n: an apostrophe is not closed
abbrev pub IsOpenFault : List ℕ → ℕ → RuleFault → Type 0
IsOpenFault w n Memory = Unit {0}
IsOpenFault w n (Bad at OpenQuote) = IsOpen n (drop n w) at
IsOpenFault w n (Bad at r) = ⊥

-- in the text w a pair begins at n, after the pairs seen: it cannot stand
abbrev pub IsFaultAt : List Pair → List ℕ → ℕ → RuleFault → Type 0
IsFaultAt seen w n Memory = Unit {0}
IsFaultAt seen w n (Bad at reason) = IsPairFault seen (drop n w) n reason at

-- in the text w a key stands at n, and its value's text begins at m
pub record IsKeyAt (seen : List Pair) (w : List ℕ) (n : ℕ) (key : Key) (m : ℕ) : Type 0 where
  pub key_is : IsKey key
  pub new : IsNew seen key
  pub spelled : drop n w ≡ key_text key ++ 61 ∷ drop m w
  pub place : m ≡ n + length (key_text key) + 1

-- in the text w a pair that may stand is spelled from n to end
pub record IsPairAt (seen : List Pair) (w : List ℕ) (n : ℕ) (pair : Pair) (end : ℕ) : Type 0 where
  pub from : ℕ
  pub key : IsKeyAt seen w n pair.key from
  pub value : IsClosed from [] (drop from w) pair.value end (drop end w)
  pub taken : IsValueOf pair.key pair.value
