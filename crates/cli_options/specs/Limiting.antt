-- The limits and the window that the options of a command name. The limits are at most those of the
-- D-Bus Specification, "Message Protocol" and "Marshaling (Wire Format)".
use Rattle.std.specs.Prelude.{◌≡◌, ◌↔◌, ◌⊎◌, ◌≤◌, ◌<◌, ◌^◌, ℕ, List, Option, Some, None, codes, zero, suc, Bool, true, false, ◌||◌}
use Rattle.std.specs.Str.Parse.{IsNumeral, digits_value, without_leading_plus}
use Rattle.clap.specs.Words.{Row, Text, first_of, one_of}
use Rattle.dbus_value_model.specs.Specification.{specification}
use Rattle.dbus_value_model.specs.declared.fd_rule.FdRule.{FdRule}
use Rattle.dbus_value_model.specs.declared.limits.Limits.{Limits}
use Rattle.cli_options.specs.declared.resync.Resync.{Resync}
use Rattle.cli_options.specs.declared.resync.Resync.TheVariants.{Off, Within}
use Rattle.cli_options.specs.declared.window.Window.{Window}
use Rattle.cli_options.specs.declared.settings.Settings.{Settings}
use Rattle.cli_options.specs.Worded.{fds_word}

-- the number that the digits of an option's text write; of an option that is not there, the default
abbrev pub IsNumberOf : Option Text → ℕ → ℕ → Type 0
IsNumberOf None default number = number ≡ default
IsNumberOf (Some text) default number = IsNumeral 10 (without_leading_plus text) × (number ≡ digits_value 10 (without_leading_plus text))

-- the number that the digits of an option's text write, if it is there, is one of 32 bits
abbrev pub IsGivenNumber : Option Text → Option ℕ → Type 0
IsGivenNumber None None = Unit {0}
IsGivenNumber None (Some number) = ⊥
IsGivenNumber (Some text) None = ⊥
IsGivenNumber (Some text) (Some number) = IsNumberOf (Some text) 0 number × (number < 2 ^ 32)

-- the rule that an option's word stands for; of an option that is not there, the default
abbrev pub IsRuleOf : Option Text → FdRule → FdRule → Type 0
IsRuleOf None default rule = rule ≡ default
IsRuleOf (Some word) default rule = word ≡ fds_word rule

-- each number among the limits is the one that its option is given, else that of the specification
pub record HasNumbers (rows : List Row) (limits : Limits) : Type 0 where
  pub message : IsNumberOf (one_of (codes "max-message") rows) specification.message limits.message
  pub array : IsNumberOf (one_of (codes "max-array") rows) specification.array limits.array
  pub depth : IsNumberOf (one_of (codes "max-depth") rows) specification.depth limits.depth

-- the flag of this name is one of the words
abbrev pub IsGiven : Text → List Row → Type 0
IsGiven name rows = first_of name rows ≡ Some (codes "true")

-- so are the numbers of the limits, and their rule on the indexes of descriptors is the one that
-- its option is given
pub record HasLimits (rows : List Row) (limits : Limits) : Type 0 where
  pub numbers : HasNumbers rows limits
  pub fds : IsRuleOf (first_of (codes "fds") rows) specification.fds limits.fds

-- as many are skipped as one option says, else none, and at most as many written as the other says,
-- if it is there; and the rest is checked if its flag is given
pub record HasWindow (rows : List Row) (window : Window) : Type 0 where
  pub skip : IsNumberOf (one_of (codes "skip") rows) 0 window.skip
  pub few : window.skip < 2 ^ 32
  pub limit : IsGivenNumber (one_of (codes "limit") rows) window.limit
  pub checks_rest : (window.checks_rest ≡ true) ↔ IsGiven (codes "check-rest") rows

-- messages are looked for again in a window of as many bytes as its option says, or of 1 MiB if
-- only the flag is given; and not at all if neither is
abbrev pub usual_window : ℕ
usual_window = 1048576

abbrev pub HasResync : List Row → Resync → Type 0
HasResync rows Off = IsGivenNumber (one_of (codes "resync-window") rows) None × (IsGiven (codes "resync") rows → ⊥)
HasResync rows (Within window) = IsGivenNumber (one_of (codes "resync-window") rows) (Some window)
    ⊎ (IsGivenNumber (one_of (codes "resync-window") rows) None × IsGiven (codes "resync") rows × (window ≡ usual_window))

-- so they are
abbrev pub is_on : Resync → Bool
is_on Off = false
is_on (Within window) = true

-- the cells of a line are as many as its option says, else 80, and a number of 16 bits
abbrev pub HasWidth : List Row → ℕ → Type 0
HasWidth rows width = IsNumberOf (one_of (codes "width") rows) 80 width × (width < 2 ^ 16)

abbrev pub GivesWidth : List Row → Option ℕ → Type 0
GivesWidth rows (Some width) = HasWidth rows width
GivesWidth rows None = (width : ℕ) → HasWidth rows width → ⊥

-- the bytes that a line may have are as many as its option says, else 1 GiB
abbrev pub HasLineLimit : List Row → ℕ → Type 0
HasLineLimit rows most = IsNumberOf (one_of (codes "max-line") rows) 1073741824 most × (most < 2 ^ 32)

abbrev pub GivesLineLimit : List Row → Option ℕ → Type 0
GivesLineLimit rows (Some most) = HasLineLimit rows most
GivesLineLimit rows None = (most : ℕ) → HasLineLimit rows most → ⊥

abbrev pub GivesResync : List Row → Option Resync → Type 0
GivesResync rows (Some resync) = HasResync rows resync
GivesResync rows None = (resync : Resync) → HasResync rows resync → ⊥

abbrev pub GivesWindow : List Row → Option Window → Type 0
GivesWindow rows (Some window) = HasWindow rows window
GivesWindow rows None = (window : Window) → HasWindow rows window → ⊥

-- limits of these numbers and the default rule, or nothing where the options name no numbers
abbrev pub GivesNumbers : List Row → Option Limits → Type 0
GivesNumbers rows (Some limits) = HasNumbers rows limits × (limits.fds ≡ specification.fds)
GivesNumbers rows None = (limits : Limits) → HasNumbers rows limits → ⊥

-- the number of an option, or nothing where it is not below 2^32
abbrev pub GivesNumber : Option Text → ℕ → Option ℕ → Type 0
GivesNumber given default (Some number) = IsNumberOf given default number
GivesNumber given default None = (number : ℕ) → IsNumberOf given default number → 2 ^ 32 ≤ number

-- the number of an option, if it is there, or nothing where it is not below 2^32
abbrev pub GivesGiven : Option Text → Option (Option ℕ) → Type 0
GivesGiven given (Some number) = IsGivenNumber given number
GivesGiven given None = (number : Option ℕ) → IsGivenNumber given number → ⊥

-- Settings that ask for more than limits and a handshake.

-- a window that leaves messages out
abbrev leaves_out : (skip : ℕ) → (limit : Option ℕ) → Bool
leaves_out zero None = false
leaves_out zero (Some limit) = true
leaves_out (suc skip) limit = true

-- they ask for JSON, explain, keep going, or have such a window
abbrev pub ask_more : Settings → Bool
ask_more settings = settings.as_json || settings.explains || settings.keeps_going || leaves_out settings.window.skip settings.window.limit
