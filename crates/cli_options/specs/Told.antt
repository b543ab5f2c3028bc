-- What is told of words that name no command.
use Rattle.std.specs.Prelude.{◌≡◌, ◌≢◌, ◌⊎◌, Bool, List, [], Option, Result, Ok, Err, Vec}
use Rattle.std.specs.List.{AllByRecursion}
use Rattle.std.specs.declared.alloc.Global.{Global}
use Rattle.clap.specs.Words.{Row, Text, subcommand_of}
use Rattle.clap.specs.Kinds.{IsAmong}
use Rattle.clap.specs.Faults.{fault_of}
use Rattle.clap.specs.declared.error.kind.ErrorKind.{ErrorKind}
use Rattle.clap.specs.declared.error.kind.ErrorKind.TheVariants.{DisplayHelp, DisplayVersion, OutOfMemory}
use Rattle.dbus_match.specs.declared.owner.Owner.{Owner}
use Rattle.dbus_rule.specs.declared.rule.Rule.{Rule as MatchRule}
use Rattle.dbus_match.specs.Matching.{Ownership, ownership}
use Rattle.cli_options.specs.CommandLine.{wire_app}
use Rattle.cli_options.specs.Owners.{AreOwnersOf, IsOwnerWord}
use Rattle.cli_options.specs.Named.{AreRulesOf, GiveOwners, HasFirstFault, HasRefused, HasRuleFault, HasSelection, Names}
use Rattle.cli_options.specs.Telling.{TellsOr, ToldOr}
use Rattle.cli_options.specs.declared.asked.Asked.{Asked}
use Rattle.cli_options.specs.declared.selection.Selection.{Selection}
use Rattle.cli_options.specs.declared.usage_fault.RefusedRule.{RefusedRule}
use Rattle.cli_options.specs.declared.usage_fault.UsageFault.{UsageFault}
use Rattle.cli_options.specs.declared.usage_fault.UsageFault.TheVariants.{Memory, Help, Version, Usage, Rule}

-- help and the version are told where they were asked for, and a fault of usage where clap found
-- one
abbrev pub TellsKind : ErrorKind → UsageFault → Type 0
TellsKind kind Memory = Unit {0}
TellsKind kind (Help text) = kind ≡ DisplayHelp
TellsKind kind (Version text) = kind ≡ DisplayVersion
TellsKind kind (Usage text) = (kind ≢ DisplayHelp) × (kind ≢ DisplayVersion) × (kind ≢ OutOfMemory)
TellsKind kind (Rule refused) = ⊥

abbrev pub IsUsageOrMemory : UsageFault → Type 0
IsUsageOrMemory told = ToldOr (Unit {0}) (λ refused. ⊥) told

-- the owner that a word gives; else a fault of usage
abbrev pub TellsOwner : Text → Result (Owner Global) UsageFault → Type 0
TellsOwner word answer = TellsOr (λ owner. IsOwnerWord word (ownership owner))
    ((o : Ownership) → IsOwnerWord word o → ⊥) (λ refused. ⊥) answer

-- the owners that words give; else a fault of usage
abbrev pub TellsOwners : List Text → Result (Vec (Owner Global) Global) UsageFault → Type 0
TellsOwners words answer = TellsOr (λ owners. AreOwnersOf words owners.items)
    (AllByRecursion (λ word. (o : Ownership) × IsOwnerWord word o) words → ⊥) (λ refused. ⊥) answer

-- the rules that texts spell; else the first that spells none, to be explained or not
abbrev pub TellsRules : List Text → Bool → Result (Vec (MatchRule Global) Global) UsageFault → Type 0
TellsRules texts explains answer = TellsOr (λ rules. AreRulesOf texts rules.items) ⊥
    (λ refused. HasFirstFault texts refused × (refused.explains ≡ explains)) answer

-- the selection that words give; else the rule that is refused; else a word gives no owner
abbrev pub TellsSelection : Text → List Row → Result (Option Selection) UsageFault → Type 0
TellsSelection name rows answer = TellsOr (HasSelection name rows) (GiveOwners rows → ⊥) (HasRefused rows) answer

-- the subcommand and the words after it name nothing that is asked for, and no rule that is refused
pub record NamesNothing (sub : Option (Text × List Row)) : Type 0 where
  pub none_asked : (asked : Asked) → Names sub asked → ⊥
  pub no_rule : (refused : RefusedRule) → HasRuleFault sub refused → ⊥

-- what the subcommand and the words after it name; else the rule that is refused; else a fault
-- of usage
abbrev pub Tells : Option (Text × List Row) → Result Asked UsageFault → Type 0
Tells sub answer = TellsOr (Names sub) (NamesNothing sub) (HasRuleFault sub) answer

-- a kind of fault, other than a wish for help or for the version, that clap finds in the words
pub record HasUsageFault (words : List Text) : Type 0 where
  pub kind : ErrorKind
  pub found : IsAmong kind (fault_of wire_app words)
  pub no_help : kind ≢ DisplayHelp
  pub no_version : kind ≢ DisplayVersion

-- what is asked for, and a refused rule, come only from words in which clap finds no fault, help or
-- the version only from words that ask for it, and a fault of usage only from words that have one,
-- or that name nothing and no refused rule
abbrev pub TellsFault : List Text → Result Asked UsageFault → Type 0
TellsFault words (Ok asked) = fault_of wire_app words ≡ []
TellsFault words (Err Memory) = Unit {0}
TellsFault words (Err (Help text)) = IsAmong DisplayHelp (fault_of wire_app words)
TellsFault words (Err (Version text)) = IsAmong DisplayVersion (fault_of wire_app words)
TellsFault words (Err (Usage text)) = HasUsageFault words ⊎ ((fault_of wire_app words ≡ []) × NamesNothing (subcommand_of wire_app words))
TellsFault words (Err (Rule refused)) = (fault_of wire_app words ≡ []) × HasRuleFault (subcommand_of wire_app words) refused
