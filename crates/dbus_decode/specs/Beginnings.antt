-- Bytes that begin with a message.
-- D-Bus Specification, "Message Protocol".
use Rattle.std.specs.Prelude.{ℕ, List}
use Rattle.dbus_value_model.specs.declared.limits.Limits.{Limits}
use Rattle.dbus_value_model.specs.declared.order.Order.{Order}
use Rattle.dbus_message_model.specs.Messages.{MessageTree}
use Rattle.dbus_header.specs.MessageOutcomes.{IsWhole}
use Rattle.dbus_message_model.specs.PackedMessages.{MessageKeepsBytes}
use Rattle.dbus_decode.specs.declared.answer.Answer.{Answer}
use Rattle.dbus_decode.specs.declared.answer.Answer.TheVariants.{Whole, Partial}

-- they begin with a message within the limits
abbrev pub BeginsWithOne : Limits → List ℕ → Type 0
BeginsWithOne limits bytes = (order : Order) × (m : MessageTree) × (n : ℕ) × IsWhole limits bytes order m n

-- Where an array of bytes is `Bytes` in an answer: the one thing of its message's values that its
-- tree does not show. D-Bus Specification, "Marshaling (Wire Format)".

-- the message that came, where one did, keeps bytes
abbrev pub AnswerKeepsBytes : {A : Type 0} → Answer A → Type 0
AnswerKeepsBytes (Whole order message used) = MessageKeepsBytes message
AnswerKeepsBytes Partial = Unit {0}
