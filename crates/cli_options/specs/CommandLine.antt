-- The command line of the program, as `clap` reads it: its name and then a subcommand with its
-- words.
use Rattle.std.specs.Prelude.{◌≡◌, ℕ, Bool, List, [], ◌∷◌, Some, true, false, codes, pos}
use Rattle.clap.specs.Words.{App, Rule, Text, app_of, new_app, new_rule, rule_of, with_rule, with_subcommand}
use Rattle.clap.specs.Simple.{on_top}
use Rattle.clap.specs.declared.builder.action.ArgAction.TheVariants.{SetTrue, Append}
use Rattle.clap.specs.declared.builder.arg.Arg.{Arg}
use Rattle.clap.specs.declared.builder.command.Command.{Command}
use Rattle.clap.specs.declared.builder.command.Command.TheViews.{out-Command}
use Rattle.clap.specs.declared.builder.value_parser.ValueParser.TheVariants.{Signed}
use Rattle.cli_options.specs.declared.flag.Flag.{Flag}
use Rattle.cli_options.specs.declared.flag.Flag.TheVariants.{Order, OrderOfLines, Side, Time, Escape, NoTime, SafeIntegers, SafeLines, Width, Members, Unanswered, Errors, Slower, Invert, MayMatch, AsBus, Owner, LearnOwners, Raw, Json, LinesJson, Explain, KeepGoing, LinesKeepGoing, Resync, ResyncWindow, MaxLine, Skip, Limit, CheckRest, Rules, NeededRules, Handshake, MaxMessage, MaxArray, MaxDepth, Fds}
use Rattle.dbus_value_model.specs.declared.limits.TheConstants.{ARRAY_LIMIT, DEPTH_LIMIT, MESSAGE_LIMIT}

-- an option with one value
abbrev pub word_rule : Text → Rule
word_rule name = record (new_rule name) { long = Some name; value_names = 1 }

-- one that must be there
abbrev pub needed_rule : Text → Rule
needed_rule name = record (word_rule name) { required = true }

-- the rules' texts, each one word, of which one may have to be there
abbrev pub text_rule : (needed : Bool) → Rule
text_rule needed = record (new_rule (codes "rule")) { value_names = 1; required = needed; action = Some Append }

-- a flag, which takes no value
abbrev pub flag_rule : Text → Rule
flag_rule name = record (new_rule name) { long = Some name; action = Some SetTrue }

-- an option with one value, which may occur again and again
abbrev pub many_rule : Text → Rule
many_rule name = record (word_rule name) { action = Some Append }

-- an option whose value is a number from 0 up to this one
abbrev pub limit_rule : Text → ℕ → Rule
limit_rule name most = record (word_rule name) { parser = Some (Signed (pos 0) (pos most)) }

-- the argument of each flag: its name, its value, and the greatest number that this may be
abbrev pub rule : Flag → Rule
rule Order = needed_rule (codes "to")
rule OrderOfLines = word_rule (codes "to")
rule Side = needed_rule (codes "side")
rule Time = flag_rule (codes "time")
rule Escape = flag_rule (codes "escape")
rule NoTime = flag_rule (codes "no-time")
rule SafeIntegers = flag_rule (codes "safe-integers")
rule SafeLines = flag_rule (codes "safe-integers")
rule Width = limit_rule (codes "width") 65535
rule Members = flag_rule (codes "members")
rule Unanswered = flag_rule (codes "unanswered")
rule Errors = flag_rule (codes "errors")
rule Slower = limit_rule (codes "slower") 4294967295
rule Invert = flag_rule (codes "invert")
rule MayMatch = flag_rule (codes "may-match")
rule AsBus = flag_rule (codes "as-bus")
rule Owner = many_rule (codes "owner")
rule LearnOwners = flag_rule (codes "learn-owners")
rule Raw = flag_rule (codes "raw")
rule Json = flag_rule (codes "json")
rule LinesJson = flag_rule (codes "json")
rule Explain = flag_rule (codes "explain")
rule KeepGoing = flag_rule (codes "keep-going")
rule LinesKeepGoing = flag_rule (codes "keep-going")
rule Resync = flag_rule (codes "resync")
rule ResyncWindow = limit_rule (codes "resync-window") 1073741824
rule MaxLine = limit_rule (codes "max-line") 1073741824
rule Skip = limit_rule (codes "skip") 4294967295
rule Limit = limit_rule (codes "limit") 4294967295
rule CheckRest = flag_rule (codes "check-rest")
rule Rules = text_rule false
rule NeededRules = text_rule true
rule Handshake = word_rule (codes "handshake")
rule MaxMessage = limit_rule (codes "max-message") MESSAGE_LIMIT
rule MaxArray = limit_rule (codes "max-array") ARRAY_LIMIT
rule MaxDepth = limit_rule (codes "max-depth") DEPTH_LIMIT
rule Fds = word_rule (codes "fds")

-- a command with these too, in this order
abbrev pub with_flags : List Flag → App → App
with_flags [] app = app
with_flags (flag ∷ flags) app = with_flags flags (with_rule app (rule flag))

-- those of the four limits
abbrev pub limits : List Flag
limits = MaxMessage ∷ MaxArray ∷ MaxDepth ∷ Fds ∷ []

-- those of each command over messages, one of the two of `--json` among them
abbrev pub options : (json : Flag) → List Flag
options json = json ∷ Explain ∷ MaxMessage ∷ MaxArray ∷ MaxDepth ∷ Fds ∷ Handshake ∷ []

-- and those by which all but `swap` go on
abbrev pub going : (json : Flag) → List Flag
going json = KeepGoing ∷ Resync ∷ ResyncWindow ∷ options json

-- those by which messages are selected, and then others. Some rule may have to be there
abbrev pub selecting : (rules : Flag) → List Flag → List Flag
selecting rules rest = rules ∷ Invert ∷ MayMatch ∷ AsBus ∷ Owner ∷ LearnOwners ∷ rest

-- and those of the window, which `show`, `json`, `list` and `filter` have
abbrev pub window : List Flag
window = Skip ∷ Limit ∷ CheckRest ∷ going Json

-- the program has a version, and one of the subcommands must be named
abbrev pub bare_app : App
bare_app = on_top (λ s. record s { subcommand_required = true; has_version = true }) (new_app (codes "dbus-wire"))

-- each command with its flags, in the order of its help
abbrev pub commands : List (Text × List Flag)
commands = (codes "show", Time ∷ Escape ∷ selecting Rules window)
    ∷ (codes "json", NoTime ∷ SafeIntegers ∷ selecting Rules window)
    ∷ (codes "list", Width ∷ selecting Rules window)
    ∷ (codes "check", going LinesJson)
    ∷ (codes "count", selecting Rules (going LinesJson))
    ∷ (codes "calls", Members ∷ Unanswered ∷ Errors ∷ Slower ∷ going LinesJson)
    ∷ (codes "swap", Order ∷ Raw ∷ selecting Rules (options Json))
    ∷ (codes "filter", selecting NeededRules (Raw ∷ window))
    ∷ (codes "encode", OrderOfLines ∷ SafeLines ∷ Explain ∷ LinesKeepGoing ∷ MaxLine ∷ limits)
    ∷ (codes "handshake", Side ∷ [])
    ∷ []

abbrev pub with_commands : List (Text × List Flag) → App → App
with_commands [] app = app
with_commands (command ∷ rest) app = with_commands rest (with_subcommand app (with_flags command.1 (new_app command.0)).top)

-- the program with them
abbrev pub wire_app : App
wire_app = with_commands commands bare_app

-- clap reads this of the argument, which no subcommand shares
pub record IsArg (rule : Rule) (arg : Arg) : Type 0 where
  pub rule_is : rule_of arg ≡ rule
  pub local : arg.global ≡ false

-- clap reads this of the command, and it has no argument that its subcommands share
pub record IsLocal (app : App) (command : Command) : Type 0 where
  pub app_is : app_of command ≡ app
  pub local : (out-Command command).has_globals ≡ false
