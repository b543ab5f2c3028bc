-- What clap's answer says of what is told.
use Rattle.std.proofs.Common.{◌≡◌, ◌↔◌, ℕ, Bool, List, [], true, refl, subst, sym, ap, ◌∙◌, inl, inr, IfOk, Ok, Err, Option, Some, Result, codes}
use Rattle.std.specs.List.{AllByRecursion}
use Rattle.clap.specs.Words.{App, HasMatchesOf, Row, Text, is_simple, subcommand_of, subcommand_rows_of}
use Rattle.clap.specs.declared.parser.matches.ArgMatches.{ArgMatches}
use Rattle.clap.specs.Kinds.{IsAmong, HasKind}
use Rattle.clap.specs.Faults.{fault_of, is_simple_and_free}
use Rattle.clap.specs.Values.{kind_of}
use Rattle.clap.specs.declared.error.Error.{Error}
use Rattle.clap.specs.declared.error.kind.ErrorKind.TheVariants.{DisplayHelp, DisplayVersion, OutOfMemory}
use Rattle.clap.proofs.OnLiterals.{clap_on_literals}
use Rattle.cli_options.specs.CommandLine.{wire_app}
use Rattle.dbus_match.specs.Matching.{Ownership}
use Rattle.cli_options.specs.Limiting.{IsGiven}
use Rattle.cli_options.specs.Telling.{TellsNamed, ToldOr}
use Rattle.cli_options.specs.declared.usage_fault.RefusedRule.{RefusedRule}
use Rattle.cli_options.specs.Told.{TellsFault, TellsKind, Tells, TellsOwner, TellsOwners, TellsRules, TellsSelection, IsUsageOrMemory, NamesNothing}
use Rattle.cli_options.specs.Named.{GiveOwners, HasEncoding, HasOrder, HasRuleFault, HasSettings, IsNamedBy, Names, NamesTask, rules_given, words_of}
use Rattle.cli_options.specs.Owners.{IsOwnerWord}
use Rattle.cli_options.specs.Worded.{HasWord, side_word}
use Rattle.cli_options.proofs.Nothing.{undone_names_nothing, unencoded_names_nothing, unordered, unowned_names_nothing, unset_names_nothing, unsided_names_nothing}
use Rattle.cli_options.specs.declared.asked.Asked.{Asked}
use Rattle.cli_options.specs.declared.command.Task.{Task}
use Rattle.cli_options.specs.declared.settings.Settings.{Settings}
use Rattle.cli_options.specs.declared.usage_fault.UsageFault.{UsageFault}
use Rattle.cli_options.specs.declared.usage_fault.UsageFault.TheVariants.{Memory, Help, Version, Usage, Rule}

pub wire_is_simple : is_simple wire_app ≡ true
unfolding clap_on_literals
wire_is_simple = refl

pub wire_is_free : is_simple_and_free wire_app ≡ true
unfolding clap_on_literals
wire_is_free = refl

-- the subcommand of a parse is the one that the words name
pub same_subcommand : (app : App) (words : List Text) (matches : ArgMatches) → app ≡ wire_app → HasMatchesOf app words matches
    → subcommand_of wire_app words ≡ subcommand_rows_of matches
same_subcommand app words matches is has = ap (λ (a : App). subcommand_of a words) (sym is) ∙ sym (has (ap is_simple is ∙ wire_is_simple)).1

-- what is told of a part is told of the whole
retold : (Nothing None : Type 0) (Refused Ruled : RefusedRule → Type 0) (told : UsageFault)
    → (Nothing → None) → ((refused : RefusedRule) → Refused refused → Ruled refused) → ToldOr Nothing Refused told → ToldOr None Ruled told
retold Nothing None Refused Ruled Memory none ruled h = tt
retold Nothing None Refused Ruled (Help text) none ruled h = h
retold Nothing None Refused Ruled (Version text) none ruled h = h
retold Nothing None Refused Ruled (Usage text) none ruled h = none h
retold Nothing None Refused Ruled (Rule refused) none ruled h = ruled refused h

-- of words that name nothing
told_of_none : (None : Type 0) (Ruled : RefusedRule → Type 0) (told : UsageFault) → IsUsageOrMemory told → None → ToldOr None Ruled told
told_of_none None Ruled told is none = retold _ _ _ _ told (λ u. none) (λ refused bad. absurd bad) is

pub nothing_told : (sub : Option (Text × List Row)) (told : UsageFault) → IsUsageOrMemory told → NamesNothing sub → Tells sub (Err told)
nothing_told sub told is none = told_of_none _ _ told is none

pub no_owner_told : (word : Text) (told : UsageFault) → IsUsageOrMemory told → ((o : Ownership) → IsOwnerWord word o → ⊥) → TellsOwner word (Err told)
no_owner_told word told is none = told_of_none _ _ told is none

pub unnamed_told : {A : Type 0} (Is : A → Type 0) (told : UsageFault) → IsUsageOrMemory told → ((x : A) → Is x → ⊥) → TellsNamed Is (Err told)
unnamed_told Is told is none = told_of_none _ _ told is none

-- of options that are to name more than that
pub part_told : {A B : Type 0} (Part : A → Type 0) (Is : B → Type 0) → ((y : B) → Is y → (x : A) × Part x) → (told : UsageFault)
    → TellsNamed Part (Err told) → TellsNamed Is (Err told)
part_told Part Is has told h = retold _ _ _ _ told (λ none y is. let part = has y is in none part.0 part.1) (λ refused bad. absurd bad) h

-- of words, of which one gives no owner
pub no_owners_told : (words : List Text) (word : Text) (told : UsageFault) → TellsOwner word (Err told)
    → (AllByRecursion (λ w. (o : Ownership) × IsOwnerWord w o) words → (o : Ownership) × IsOwnerWord word o) → TellsOwners words (Err told)
no_owners_told words word told h at = retold _ _ _ _ told (λ none all. let one = at all in none one.0 one.1) (λ refused bad. bad) h

-- of a selection that has them
pub unowned_told : (name : Text) (rows : List Row) (told : UsageFault) → TellsOwners (words_of (codes "owner") rows) (Err told) → TellsSelection name rows (Err told)
unowned_told name rows told h = retold _ _ _ _ told (λ none. none) (λ refused bad. absurd bad) h

-- of one of whose texts one spells no rule
pub unruled_told : (name : Text) (rows : List Row) (explains : Bool) (told : UsageFault) → GiveOwners rows → ((explains ≡ true) ↔ IsGiven (codes "explain") rows)
    → TellsRules (rules_given rows) explains (Err told) → TellsSelection name rows (Err told)
unruled_told name rows explains told owners asked h = retold _ _ _ _ told (λ bad. absurd bad)
    (λ refused has. record { first = has.0; explains = subst (λ e. (e ≡ true) ↔ IsGiven (codes "explain") rows) (sym has.1) asked; owners = owners }) h

-- of `encode`
pub told_without_encoding : (rows : List Row) (told : UsageFault) → TellsNamed (HasEncoding rows) (Err told) → Tells (Some (codes "encode", rows)) (Err told)
told_without_encoding rows told h = retold _ _ _ _ told (unencoded_names_nothing rows) (λ refused bad. absurd bad) h

-- of `handshake`
pub told_without_side : (rows : List Row) (told : UsageFault) → TellsNamed (HasWord side_word (codes "side") rows) (Err told)
    → Tells (Some (codes "handshake", rows)) (Err told)
told_without_side rows told h = retold _ _ _ _ told (λ none. unsided_names_nothing rows (λ side named. none (Some side) named)) (λ refused bad. absurd bad) h

-- of `swap`
pub told_without_order : (rows : List Row) (told : UsageFault) → TellsNamed (HasOrder rows) (Err told) → TellsNamed (NamesTask (codes "swap") rows) (Err told)
told_without_order rows told h = retold _ _ _ _ told (λ none. unordered rows (λ order named. none (Some order) named)) (λ refused bad. absurd bad) h

-- of what is to be done with messages
module _ (sub : Text × List Row) where
  -- after options that name no settings
  pub told_without_settings : (told : UsageFault) → (sub.0 ≡ codes "handshake" → ⊥) → (sub.0 ≡ codes "encode" → ⊥) → TellsNamed (HasSettings sub.1) (Err told) → Tells (Some sub) (Err told)
  told_without_settings told other unencoded h = retold _ _ _ _ told (unset_names_nothing sub other unencoded) (λ refused bad. absurd bad) h

  -- that is nothing
  pub told_without_task : (told : UsageFault) → (sub.0 ≡ codes "handshake" → ⊥) → (sub.0 ≡ codes "encode" → ⊥) → TellsNamed (NamesTask sub.0 sub.1) (Err told) → Tells (Some sub) (Err told)
  told_without_task told other unencoded h = retold _ _ _ _ told (undone_names_nothing sub other unencoded) (λ refused bad. absurd bad) h

  -- of none that are selected
  pub told_without_selection : (task : Task) (settings : Settings) (told : UsageFault) → (sub.0 ≡ codes "handshake" → ⊥) → (sub.0 ≡ codes "encode" → ⊥) → NamesTask sub.0 sub.1 task → HasSettings sub.1 settings
      → TellsSelection sub.0 sub.1 (Err told) → Tells (Some sub) (Err told)
  told_without_selection task settings told other unencoded named given h = retold _ _ _ _ told (unowned_names_nothing sub other unencoded) (λ refused has. (has, (task, named), (settings, given))) h

pub named_of_matches : (words : List Text) (sub : Option (Text × List Row)) (answer : Result Asked UsageFault) → subcommand_of wire_app words ≡ sub
    → Tells sub answer → IfOk answer (IsNamedBy words)
named_of_matches words sub (Ok asked) same h = subst (λ s. Names s asked) (sym same) h
named_of_matches words sub (Err fault) same h = tt

pub told_of_matches : (words : List Text) (sub : Option (Text × List Row)) (answer : Result Asked UsageFault) → fault_of wire_app words ≡ []
    → subcommand_of wire_app words ≡ sub → Tells sub answer → TellsFault words answer
told_of_matches words sub (Ok asked) none same h = none
told_of_matches words sub (Err Memory) none same h = tt
told_of_matches words sub (Err (Help text)) none same h = absurd h
told_of_matches words sub (Err (Version text)) none same h = absurd h
told_of_matches words sub (Err (Usage text)) none same h = inr (none, subst NamesNothing (sym same) h)
told_of_matches words sub (Err (Rule refused)) none same h = (none, subst (λ s. HasRuleFault s refused) (sym same) h)

pub told_of_error : (words : List Text) (e : Error) (told : UsageFault) → HasKind (fault_of wire_app words) e → TellsKind (kind_of e) told → TellsFault words (Err told)
told_of_error words e Memory k t = tt
told_of_error words e (Help text) k t = elim k [
  | inl memory ↦ let bad : DisplayHelp ≡ OutOfMemory = sym t ∙ memory in cc
  | inr found ↦ subst (λ kind. IsAmong kind (fault_of wire_app words)) t found
]
told_of_error words e (Version text) k t = elim k [
  | inl memory ↦ let bad : DisplayVersion ≡ OutOfMemory = sym t ∙ memory in cc
  | inr found ↦ subst (λ kind. IsAmong kind (fault_of wire_app words)) t found
]
told_of_error words e (Usage text) k t = elim k [
  | inl memory ↦ absurd (t.2 memory)
  | inr found ↦ inl (record { kind = kind_of e; found = found; no_help = t.0; no_version = t.1 })
]
told_of_error words e (Rule refused) k t = absurd t
