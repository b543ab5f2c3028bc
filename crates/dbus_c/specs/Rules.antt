-- What is told by numbers of match rules: of a rule's text, of a message that they may match, and a
-- rule's canonical text. D-Bus Specification, "Match Rules".
use Rattle.std.specs.Prelude.{◌≡◌, ℕ, List, [], codes, nat_eq, not, if◌then◌else◌, ◌⊎◌, ◌+◌, ◌<◌, ◌≤◌, ◌∷◌, ◌++◌, length, drop, Option, Some, None, IsUtf8}
use Rattle.std.specs.Str.Lossy.{utf8_valid_len}
use Rattle.std.specs.declared.alloc.Global.{Global}
use Rattle.dbus_rule.specs.Faults.{rule_reason_text, IsFault}
use Rattle.dbus_rule.specs.declared.fault.RuleReason.{RuleReason}
use Rattle.dbus_rule.specs.declared.fault.RuleReason.TheVariants as reason
use Rattle.dbus_texts.specs.Kinds.{IsKind}
use Rattle.dbus_texts.specs.declared.text_kind.TextKind.TheVariants.{BusName}
use Rattle.dbus_value_model.specs.declared.limits.Limits.{Limits}
use Rattle.dbus_value_model.specs.declared.order.Order.{Order}
use Rattle.dbus_message_model.specs.Messages.{MessageTree}
use Rattle.dbus_header.specs.MessageOutcomes.{IsWhole}
use Rattle.dbus_rule.specs.Rules.{canonical}
use Rattle.dbus_rule.specs.RuleViews.{rule_pairs}
use Rattle.dbus_rule.specs.declared.rule.Rule.{Rule}
use Rattle.dbus_rule_set.specs.declared.handle.RuleHandle.{RuleHandle}
use Rattle.dbus_c_handle.specs.Rules.{Adds, Finds, KeepsAll, SetsAsBus, SetsOwner}
use Rattle.dbus_c_handle.specs.declared.kept.Kept.{Kept}
use Rattle.dbus_c.specs.Outcomes.{IsTold}
use Rattle.dbus_c.specs.declared.answers.TheConstants.{WHOLE, REFUSED, NO_MEMORY, NO_ROOM, NO_RULE}
use Rattle.dbus_c.specs.declared.rule_reasons.TheConstants.{NOT_UTF8}
use Rattle.dbus_c.specs.declared.rules.RuleRefused.{RuleRefused}

-- The numbers and the names of the reasons why a text spells no match rule: those that the reading
-- of a rule has, and that the text is not UTF-8. D-Bus Specification, "Match Rules"; the reasons
-- are this project's own.

abbrev pub rule_reason_number : RuleReason → ℕ
rule_reason_number reason.Nul = 1
rule_reason_number reason.NoEquals = 2
rule_reason_number reason.KeyName = 3
rule_reason_number reason.KeyTwice = 4
rule_reason_number reason.PathAndNamespace = 5
rule_reason_number reason.OpenQuote = 6
rule_reason_number reason.BadValue = 7

-- the name of the reason of this number, or nothing if there is none
abbrev pub rule_name_at : ℕ → List ℕ
rule_name_at n =
    if nat_eq n 1 then codes "Nul" else if nat_eq n 2 then codes "NoEquals" else if nat_eq n 3 then codes "KeyName"
    else if nat_eq n 4 then codes "KeyTwice" else if nat_eq n 5 then codes "PathAndNamespace" else if nat_eq n 6 then codes "OpenQuote"
    else if nat_eq n 7 then codes "BadValue" else if nat_eq n 8 then codes "NotUtf8" else []

-- the text of a reason is the name at its number
abbrev pub RuleNamesAreTexts : Type 0
RuleNamesAreTexts = (r : RuleReason) → rule_reason_text r ≡ rule_name_at (rule_reason_number r)

abbrev pub rule_fault_told : ℕ → ℕ → RuleRefused
rule_fault_told at reason = record { offset = at; reason = reason; reserved = 0 }

-- the rule that the text spells is added, and what stands for it is told; or all that is kept
-- stays, and the text's fault is told, or that it is not UTF-8, or that memory ran out
pub data TellsRule (w : List ℕ) (answer : ℕ) (before after : Option Kept) (id_old id_new : RuleHandle) (old new : RuleRefused) : Type 0 where
  added : IsUtf8 w → Adds w before after id_new → answer ≡ WHOLE → new ≡ old → TellsRule w answer before after id_old id_new old new
  faulty : (reason : RuleReason) (at : ℕ) → IsFault w reason at → IsUtf8 w → KeepsAll before after → answer ≡ REFUSED → id_new ≡ id_old
      → new ≡ rule_fault_told at (rule_reason_number reason) → TellsRule w answer before after id_old id_new old new
  no_text : (IsUtf8 w → ⊥) → KeepsAll before after → answer ≡ REFUSED → id_new ≡ id_old → new ≡ rule_fault_told (utf8_valid_len w) NOT_UTF8
      → TellsRule w answer before after id_old id_new old new
  no_memory : KeepsAll before after → answer ≡ NO_MEMORY → id_new ≡ id_old → new ≡ old → TellsRule w answer before after id_old id_new old new

-- there was a rule to remove, or none
abbrev pub removal_told : Option (Rule Global) → ℕ
removal_told None = NO_RULE
removal_told (Some rule) = WHOLE

-- a name's owner is a bus name, or empty, which is none
abbrev pub IsOwner : List ℕ → Type 0
IsOwner owner = (owner ≡ []) ⊎ IsKind BusName owner

-- the name's owner is noted, or that it has none; or one of the two is no name, or memory ran out,
-- and all that is kept stays
pub data TellsOwner (name owner : List ℕ) (before after : Option Kept) (answer : ℕ) : Type 0 where
  noted : IsKind BusName name → IsOwner owner → SetsOwner name owner before after → answer ≡ WHOLE → TellsOwner name owner before after answer
  no_name : (IsKind BusName name → IsOwner owner → ⊥) → after ≡ before → answer ≡ REFUSED → TellsOwner name owner before after answer
  no_memory : KeepsAll before after → answer ≡ NO_MEMORY → TellsOwner name owner before after answer

-- the rules are asked as a bus asks them, or, at 0, not; or memory ran out, and all that is kept
-- stays
pub data TellsAsBus (as_bus : ℕ) (before after : Option Kept) (answer : ℕ) : Type 0 where
  asked : SetsAsBus (not (nat_eq as_bus 0)) before after → answer ≡ WHOLE → TellsAsBus as_bus before after answer
  no_memory : KeepsAll before after → answer ≡ NO_MEMORY → TellsAsBus as_bus before after answer

-- all handles are told, at the start of a room that has room for them; or it has not
pub data TellsAll (handles : List RuleHandle) (answer : ℕ) (old new : List RuleHandle) : Type 0 where
  written : length handles ≤ length old → answer ≡ WHOLE → new ≡ handles ++ drop (length handles) old → TellsAll handles answer old new
  no_room : length old < length handles → answer ≡ NO_ROOM → new ≡ old → TellsAll handles answer old new

-- what stands for each rule that matches the message is told, and how many there are
abbrev pub TellsFound : Option Kept → MessageTree → ℕ → (old new : List RuleHandle) → (count : ℕ) → Type 0
TellsFound own m answer old new count =
    (found : List RuleHandle) × Finds own m found × TellsAll found answer old new × (count ≡ length found)

-- what is told of the rules that are kept, that are asked of the message that bytes begin with
pub record TellsMatching (own : Option Kept) (limits : Limits) (b : List ℕ) (answer : ℕ) (old new : List RuleHandle)
    (count_old count_new : ℕ) : Type 0 where
  pub found : IsTold answer → (order : Order) (m : MessageTree) (n : ℕ) → IsWhole limits b order m n → TellsFound own m answer old new count_new
  pub unchanged : (IsTold answer → ⊥) → (new ≡ old) × (count_new ≡ count_old)

-- a text and a 0 after it are written, or there is no room for both, and its length is told; or
-- memory ran out
pub data TellsText (w : List ℕ) (answer : ℕ) (old new : List ℕ) (long_old long_new : ℕ) : Type 0 where
  written : length w < length old → answer ≡ WHOLE → new ≡ w ++ 0 ∷ drop (length w + 1) old → long_new ≡ length w → TellsText w answer old new long_old long_new
  no_room : length old ≤ length w → answer ≡ NO_ROOM → new ≡ old → long_new ≡ length w → TellsText w answer old new long_old long_new
  no_memory : answer ≡ NO_MEMORY → new ≡ old → long_new ≡ long_old → TellsText w answer old new long_old long_new

-- a rule's canonical text is told; or there is no rule
abbrev pub TellsRuleText : Option (Rule Global) → ℕ → List ℕ → List ℕ → ℕ → ℕ → Type 0
TellsRuleText None answer old new long_old long_new = (answer ≡ NO_RULE) × (new ≡ old) × (long_new ≡ long_old)
TellsRuleText (Some rule) answer old new long_old long_new = TellsText (canonical (rule_pairs rule)) answer old new long_old long_new
