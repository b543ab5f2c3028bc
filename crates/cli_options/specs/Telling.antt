-- What is told of words: what they name, or a fault.
use Rattle.std.specs.Prelude.{Result, Ok, Err}
use Rattle.cli_options.specs.declared.usage_fault.RefusedRule.{RefusedRule}
use Rattle.cli_options.specs.declared.usage_fault.UsageFault.{UsageFault}
use Rattle.cli_options.specs.declared.usage_fault.UsageFault.TheVariants.{Memory, Help, Version, Usage, Rule}

-- a fault of usage, if this holds, or a rule that is refused, of which that holds
abbrev pub ToldOr : (Nothing : Type 0) → (Refused : RefusedRule → Type 0) → UsageFault → Type 0
ToldOr Nothing Refused Memory = Unit {0}
ToldOr Nothing Refused (Help text) = ⊥
ToldOr Nothing Refused (Version text) = ⊥
ToldOr Nothing Refused (Usage text) = Nothing
ToldOr Nothing Refused (Rule refused) = Refused refused

module _ {A : Type 0} (Is : A → Type 0) where
  -- what words name, of which Is holds; else such a fault
  abbrev pub TellsOr : (Nothing : Type 0) → (Refused : RefusedRule → Type 0) → Result A UsageFault → Type 0
  TellsOr Nothing Refused (Ok x) = Is x
  TellsOr Nothing Refused (Err told) = ToldOr Nothing Refused told

  -- the same of options, which have no rules: a fault of usage if Is holds of nothing
  abbrev pub TellsNamed : Result A UsageFault → Type 0
  TellsNamed answer = TellsOr ((x : A) → Is x → ⊥) (λ refused. ⊥) answer
