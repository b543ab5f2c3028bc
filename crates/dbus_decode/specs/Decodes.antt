-- Trusted by the headline.
-- What decoding answers under limits.
-- D-Bus Specification, "Message Protocol".
use Rattle.std.specs.Prelude.{ℕ, List, Result, Ok, Err}
use Rattle.dbus_value_model.specs.declared.limits.Limits.{Limits}
use Rattle.dbus_value_model.specs.declared.fault.Refusal.{Refusal}
use Rattle.dbus_value_model.specs.declared.fault.Refusal.TheVariants.{Memory, Format}
use Rattle.dbus_decode.specs.declared.answer.Answer.{Answer}
use Rattle.dbus_decode.specs.declared.answer.Answer.TheVariants.{Whole, Partial}
use Rattle.dbus_header.specs.MessageOutcomes.{IsWhole, IsRefused, IsPartial}
use Rattle.dbus_message_model.specs.MessageViews.{message_tree}

abbrev pub Decodes : {A : Type 0} → Limits → List ℕ → Result (Answer A) Refusal → Type 0
Decodes limits b (Ok (Whole order message used)) = IsWhole limits b order (message_tree message) used
Decodes limits b (Ok Partial) = IsPartial limits b
Decodes limits b (Err Memory) = Unit {0}
Decodes limits b (Err (Format f)) = IsRefused limits b f
