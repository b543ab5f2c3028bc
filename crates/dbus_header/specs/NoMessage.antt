-- Bytes that begin with no message, and the fault of such bytes if they are all that there is.
-- D-Bus Specification, "Message Protocol".
use Rattle.std.specs.Prelude.{◌≡◌, ◌⊎◌, ℕ, List, length}
use Rattle.dbus_value_model.specs.declared.fault.Fault.{Fault}
use Rattle.dbus_value_model.specs.declared.fault.Reason.TheVariants.{Truncated}
use Rattle.dbus_value_model.specs.declared.limits.Limits.{Limits}
use Rattle.dbus_value_model.specs.declared.order.Order.{Order}
use Rattle.dbus_value_model.specs.Items.{fault}
use Rattle.dbus_message_model.specs.Messages.{MessageTree}
use Rattle.dbus_header.specs.MessageOutcomes.{IsWhole, IsRefused, IsPartial}

abbrev pub BeginsWithNone : Limits → List ℕ → Type 0
BeginsWithNone limits bytes = (order : Order) (m : MessageTree) (n : ℕ) → IsWhole limits bytes order m n → ⊥

-- they are refused with the fault; or more are wanted, and they end too soon at their end
abbrev pub IsFaultAtEnd : Limits → List ℕ → Fault → Type 0
IsFaultAtEnd limits bytes f = IsRefused limits bytes f ⊎ (IsPartial limits bytes × (f ≡ fault (length bytes) Truncated))
