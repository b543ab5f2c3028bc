-- Which limits a message keeps: on open containers, on arrays, on its length, and on indexes of
-- descriptors. D-Bus Specification, "Message Format", "Marshaling (Wire Format)".
use Rattle.std.specs.Prelude.{◌<◌, length, ◌≡◌, ◌↔◌, ◌≤◌, ◌⊎◌}
use Rattle.dbus_value_model.specs.declared.order.Order.TheVariants.{Little}
use Rattle.dbus_value_model.specs.declared.limits.Limits.{Limits}
use Rattle.dbus_value_model.specs.Forming.{NestsWithin, NestWithin}
use Rattle.dbus_value_model.specs.Spelling.{IsWithinLimits, AreWithinLimits}
use Rattle.dbus_value_model.specs.declared.fd_rule.FdRule.TheVariants.{Any}
use Rattle.dbus_value_model.specs.Specification.{specification}
use Rattle.dbus_message_model.specs.Messages.{MessageTree, field_array, body_start, message_bytes, KeepsIndexes, IsValidMessage}

-- no more arrays, structs and variants are open at once than the limit says, those of the header
-- among them
abbrev pub IsShallow : Limits → MessageTree → Type 0
IsShallow limits m = NestsWithin limits.depth (field_array m.fields) × NestWithin limits.depth m.body

-- Both orders spell arrays and messages in as many bytes.
abbrev pub KeepsArrays : Limits → MessageTree → Type 0
KeepsArrays limits m = IsWithinLimits limits.array Little 12 (field_array m.fields) × AreWithinLimits limits.array Little (body_start Little m.fields) m.body

abbrev pub IsLong : Limits → MessageTree → Type 0
IsLong limits m = limits.message < length (message_bytes Little m)

-- it keeps all four limits
abbrev pub KeepsLimits : Limits → MessageTree → Type 0
KeepsLimits limits m = IsShallow limits m × KeepsArrays limits m × (IsLong limits m → ⊥) × KeepsIndexes limits m

-- The laws of messages and limits: which limits are wider than others, and which messages keep
-- them. D-Bus Specification, "Message Format" and "Marshaling (Wire Format)".

-- None of the wider limits is smaller. A rule on indexes of descriptors is not where it is the
-- same, or where any may stand.
abbrev pub AreWider : Limits → Limits → Type 0
AreWider wider limits = (limits.message ≤ wider.message) × (limits.array ≤ wider.array) × (limits.depth ≤ wider.depth)
    × ((wider.fds ≡ limits.fds) ⊎ (wider.fds ≡ Any))

-- A message that keeps limits keeps wider ones.
abbrev pub WiderLimits : Type 0
WiderLimits = (limits wider : Limits) (m : MessageTree) → AreWider wider limits → KeepsLimits limits m → KeepsLimits wider m

-- The messages that are valid within limits are the valid ones that keep them.
abbrev pub ValidWithin : Type 0
ValidWithin = (limits : Limits) (m : MessageTree) → IsValidMessage limits m ↔ (IsValidMessage specification m × KeepsLimits limits m)
