-- The command and the settings that words name, and the rule among them that is refused: D-Bus
-- Specification, "Match Rules".
use Rattle.std.specs.Prelude.{◌≡◌, ◌↔◌, ◌⊎◌, ℕ, true, false, List, [], ◌∷◌, ◌++◌, Option, Some, None, option_map, unwrap_or, codes, string_bytes}
use Rattle.std.specs.List.{AllByRecursion, AllZip}
use Rattle.std.specs.declared.alloc.Global.{Global}
use Rattle.clap.specs.Words.{Row, Text, all_of, first_of, one_of, subcommand_of}
use Rattle.dbus_value_model.specs.declared.order.Order.{Order}
use Rattle.dbus_rule.specs.declared.rule.Rule.{Rule}
use Rattle.dbus_rule.specs.Faults.{IsFault}
use Rattle.dbus_match.specs.Matching.{Ownership}
use Rattle.dbus_rule.specs.Rules.{Pair, SpellsRule}
use Rattle.dbus_rule.specs.RuleViews.{rule_pairs}
use Rattle.cli_options.specs.declared.file_form.FileForm.{FileForm}
use Rattle.cli_options.specs.declared.file_form.FileForm.TheVariants as files
use Rattle.dbus_handshake_input.specs.declared.side.Side.{Side}
use Rattle.cli_options.specs.CommandLine.{wire_app}
use Rattle.cli_options.specs.Limiting.{HasLimits, HasLineLimit, HasResync, HasWidth, HasWindow, IsGiven, IsGivenNumber, is_on}
use Rattle.cli_options.specs.Owners.{AreOwnersOf, IsOwnerWord}
use Rattle.cli_options.specs.Worded.{HasWord, order_word, side_word}
use Rattle.cli_options.specs.declared.asked.Asked.{Asked}
use Rattle.cli_options.specs.declared.asked.Asked.TheVariants.{Messages, Encode, Handshake}
use Rattle.cli_options.specs.declared.command.Output.TheVariants as output
use Rattle.cli_options.specs.declared.command.Request.{Request}
use Rattle.cli_options.specs.declared.command.Task.{Task}
use Rattle.cli_options.specs.declared.command.Task.TheVariants.{Write, Count, Lines, Calls}
use Rattle.cli_options.specs.declared.selection.Question.{Question}
use Rattle.cli_options.specs.declared.selection.Question.TheVariants as questions
use Rattle.cli_options.specs.declared.selection.Selection.{Selection}
use Rattle.cli_options.specs.declared.settings.Settings.{Settings}
use Rattle.cli_options.specs.declared.usage_fault.RefusedRule.{RefusedRule}
use Rattle.cli_options.specs.declared.wanted_calls.WantedCalls.{WantedCalls}
use Rattle.cli_options.specs.declared.wanted_encoding.WantedEncoding.{WantedEncoding}

-- the side whose handshake comes first is the one that its option is given; without that option
-- there is none
abbrev pub HasSide : List Row → Option Side → Type 0
HasSide = HasWord side_word (codes "handshake")

-- the words that an option is given, each time that it stands there
abbrev pub words_of : Text → List Row → List Text
words_of id rows = unwrap_or (all_of id rows) []

-- the texts spell the rules, one each
abbrev pub AreRulesOf : List Text → List (Rule Global) → Type 0
AreRulesOf texts rules = AllZip (λ text rule. SpellsRule text (rule_pairs rule)) texts rules

-- the messages are written raw if `--raw` is one of the words
abbrev pub HasFileForm : List Row → FileForm → Type 0
HasFileForm rows form = (form ≡ files.Raw) ↔ IsGiven (codes "raw") rows

-- the texts that are to spell rules; without any, the empty one, whose rule matches each message
abbrev pub rules_given : List Row → List Text
rules_given rows = unwrap_or (all_of (codes "rule") rows) ([] ∷ [])

-- it is asked of rules whether they may match if `--may-match` is one of the words
abbrev pub HasQuestion : List Row → Question → Type 0
HasQuestion rows questions.Matches = IsGiven (codes "may-match") rows → ⊥
HasQuestion rows questions.MayMatch = IsGiven (codes "may-match") rows

-- owners are learned, of `filter` only if it is to
abbrev pub LearnsOwners : Text → List Row → Type 0
LearnsOwners name rows = (name ≡ codes "filter" → ⊥) ⊎ IsGiven (codes "learn-owners") rows

-- the words after the name of a subcommand are texts that spell the rules, in their order; and so
-- are the owners given, and it learns others if it is to; and what is asked of each rule is what
-- they name, as at a bus if it is to be
pub record IsSelectionGiven (name : Text) (rows : List Row) (selection : Selection) : Type 0 where
  pub rules : AreRulesOf (rules_given rows) selection.rules.items
  pub inverted : (selection.is_inverted ≡ true) ↔ IsGiven (codes "invert") rows
  pub question : HasQuestion rows selection.question
  pub owners : AreOwnersOf (words_of (codes "owner") rows) selection.owners.items
  pub learns : (selection.learns ≡ true) ↔ LearnsOwners name rows
  pub as_bus : (selection.as_bus ≡ true) ↔ IsGiven (codes "as-bus") rows

-- all messages are selected: no rule is given, and it is neither inverted nor as at a bus
abbrev pub TakesAll : List Row → Type 0
TakesAll rows = (all_of (codes "rule") rows ≡ None) × (IsGiven (codes "invert") rows → ⊥) × (IsGiven (codes "as-bus") rows → ⊥)

-- then no selection is made
abbrev pub IsMade : List Row → Selection → Option Selection → Type 0
IsMade rows selection None = TakesAll rows
IsMade rows selection (Some made) = (TakesAll rows → ⊥) × (made ≡ selection)

abbrev pub HasSelection : Text → List Row → Option Selection → Type 0
HasSelection name rows made = (selection : Selection) × IsSelectionGiven name rows selection × IsMade rows selection made

-- the words after a subcommand name the limits, the side and the windows, and have each flag that is
-- set and no other; but the run goes on too if messages are looked for again
pub record HasSettings (rows : List Row) (settings : Settings) : Type 0 where
  pub limits : HasLimits rows settings.limits
  pub as_json : (settings.as_json ≡ true) ↔ IsGiven (codes "json") rows
  pub explains : (settings.explains ≡ true) ↔ IsGiven (codes "explain") rows
  pub keeps_going : (settings.keeps_going ≡ true) ↔ ((is_on settings.resync ≡ true) ⊎ IsGiven (codes "keep-going") rows)
  pub resync : HasResync rows settings.resync
  pub handshake : HasSide rows settings.handshake
  pub window : HasWindow rows settings.window

-- what `calls` is to list has each flag that is given, and the number of milliseconds
pub record HasWanted (rows : List Row) (wanted : WantedCalls) : Type 0 where
  pub by_member : (wanted.by_member ≡ true) ↔ IsGiven (codes "members") rows
  pub unanswered : (wanted.unanswered ≡ true) ↔ IsGiven (codes "unanswered") rows
  pub errors : (wanted.errors ≡ true) ↔ IsGiven (codes "errors") rows
  pub slower : IsGivenNumber (one_of (codes "slower") rows) wanted.slower

abbrev pub GivesWanted : List Row → Option WantedCalls → Type 0
GivesWanted rows (Some wanted) = HasWanted rows wanted
GivesWanted rows None = (wanted : WantedCalls) → HasWanted rows wanted → ⊥

-- the name of a subcommand and the words after it name what is done with messages; `show` writes
-- times, and escapes hidden characters, if its flags are given, and `json` writes times if that
-- flag is not, and safe integers if that one is
abbrev pub NamesTask : Text → List Row → Task → Type 0
NamesTask name rows (Write (output.Text times escapes)) = (name ≡ codes "show") × ((times ≡ true) ↔ IsGiven (codes "time") rows) × ((escapes ≡ true) ↔ IsGiven (codes "escape") rows)
NamesTask name rows (Write (output.JsonLine times safe)) = (name ≡ codes "json") × ((times ≡ false) ↔ IsGiven (codes "no-time") rows) × ((safe ≡ true) ↔ IsGiven (codes "safe-integers") rows)
NamesTask name rows (Write output.Nothing) = name ≡ codes "check"
NamesTask name rows (Write (output.InOrder order form)) = (name ≡ codes "swap") × (first_of (codes "to") rows ≡ Some (order_word order)) × HasFileForm rows form
NamesTask name rows (Write (output.AsIs form)) = (name ≡ codes "filter") × HasFileForm rows form
NamesTask name rows Count = name ≡ codes "count"
NamesTask name rows (Lines width) = (name ≡ codes "list") × HasWidth rows width
NamesTask name rows (Calls wanted) = (name ≡ codes "calls") × HasWanted rows wanted

-- they name what is done with messages, which of them, and by which settings
pub record HasRequest (name : Text) (rows : List Row) (request : Request) : Type 0 where
  pub task : NamesTask name rows request.task
  pub selection : HasSelection name rows request.selection
  pub settings : HasSettings rows request.settings

-- the order of all messages is the one that `--to` is given; without it there is none
abbrev pub HasOrder : List Row → Option Order → Type 0
HasOrder = HasWord order_word (codes "to")

-- what `encode` is to write keeps the limits that its options name, in the order that they name,
-- of safe integers, and explains what it refuses, and goes on, if those flags are given
pub record HasEncoding (rows : List Row) (wanted : WantedEncoding) : Type 0 where
  pub limits : HasLimits rows wanted.limits
  pub order : HasOrder rows wanted.order
  pub safe_integers : (wanted.safe_integers ≡ true) ↔ IsGiven (codes "safe-integers") rows
  pub explains : (wanted.explains ≡ true) ↔ IsGiven (codes "explain") rows
  pub keeps_going : (wanted.keeps_going ≡ true) ↔ IsGiven (codes "keep-going") rows
  pub max_line : HasLineLimit rows wanted.max_line

-- the subcommand and the words after it name what is done with messages, what `encode` is to write,
-- or the side whose handshake is listed
abbrev pub Names : Option (Text × List Row) → Asked → Type 0
Names None asked = ⊥
Names (Some sub) (Messages request) = HasRequest sub.0 sub.1 request
Names (Some sub) (Encode wanted) = (sub.0 ≡ codes "encode") × HasEncoding sub.1 wanted
Names (Some sub) (Handshake side) = (sub.0 ≡ codes "handshake") × (first_of (codes "side") sub.1 ≡ Some (side_word side))

-- it is what the words name
abbrev pub IsNamedBy : List Text → Asked → Type 0
IsNamedBy words asked = Names (subcommand_of wire_app words) asked

-- the first of the texts that spells no rule is this one, with its fault
pub record HasFirstFault (texts : List Text) (refused : RefusedRule) : Type 0 where
  pub before : List Text
  pub after : List Text
  pub texts_are : texts ≡ before ++ string_bytes refused.text ∷ after
  pub rules : AllByRecursion (λ t. (pairs : List Pair) × SpellsRule t pairs) before
  pub fault : IsFault (string_bytes refused.text) refused.reason refused.at

-- each word after `--owner` gives an owner
abbrev pub GiveOwners : List Row → Type 0
GiveOwners rows = AllByRecursion (λ word. (o : Ownership) × IsOwnerWord word o) (words_of (codes "owner") rows)

-- the words are texts, of which this one is refused, and options that give owners; it is to be
-- explained exactly if `--explain` is one of them
pub record HasRefused (rows : List Row) (refused : RefusedRule) : Type 0 where
  pub first : HasFirstFault (rules_given rows) refused
  pub explains : (refused.explains ≡ true) ↔ IsGiven (codes "explain") rows
  pub owners : GiveOwners rows

-- such words are of a subcommand with which they name what is done with messages, and settings
abbrev pub HasRuleFault : Option (Text × List Row) → RefusedRule → Type 0
HasRuleFault None refused = ⊥
HasRuleFault (Some sub) refused = HasRefused sub.1 refused × ((task : Task) × NamesTask sub.0 sub.1 task) × ((settings : Settings) × HasSettings sub.1 settings)
