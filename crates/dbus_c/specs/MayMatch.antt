-- What is told by numbers of match rules that may match a message. D-Bus Specification, "Match
-- Rules".
use Rattle.std.specs.Prelude.{◌≡◌, ◌≢◌, ◌⊎◌, ℕ, List, Option, Some, None}
use Rattle.dbus_texts.specs.Kinds.{IsKind}
use Rattle.dbus_texts.specs.declared.text_kind.TextKind.TheVariants.{BusName}
use Rattle.dbus_value_model.specs.declared.limits.Limits.{Limits}
use Rattle.dbus_value_model.specs.declared.order.Order.{Order}
use Rattle.dbus_message_model.specs.Messages.{MessageTree}
use Rattle.dbus_header.specs.MessageOutcomes.{IsWhole}
use Rattle.dbus_c_handle.specs.Rules.{AnyMay}
use Rattle.dbus_c_handle.specs.declared.kept.Kept.{Kept}
use Rattle.dbus_c.specs.declared.answers.TheConstants.{WHOLE}

-- the sender that a text names, if it is a bus name
abbrev pub IsKnown : List ℕ → Option (List ℕ) → Type 0
IsKnown text None = IsKind BusName text → ⊥
IsKnown text (Some name) = IsKind BusName text × (name ≡ text)

-- 1 if it is so, and 0 if not
abbrev pub IsNumberOf : Type 0 → ℕ → Type 0
IsNumberOf P number = (P × (number ≡ 1)) ⊎ ((P → ⊥) × (number ≡ 0))

-- what is told of the rules that are kept, with a sender, that are asked of the message that bytes
-- begin with
pub record TellsMay (own : Option Kept) (limits : Limits) (b sender : List ℕ) (answer old new : ℕ) : Type 0 where
  pub may : answer ≡ WHOLE → (order : Order) (m : MessageTree) (n : ℕ) → IsWhole limits b order m n
      → (known : Option (List ℕ)) → IsKnown sender known → IsNumberOf (AnyMay own m known) new
  pub unchanged : answer ≢ WHOLE → new ≡ old
