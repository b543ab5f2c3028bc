-- What is told of bytes: whether they begin with a message, and else where not.
-- D-Bus Specification, "Message Protocol".
use Rattle.std.specs.Prelude.{◌≡◌, ℕ, ◌<◌, List, length}
use Rattle.dbus_header.specs.MessageOutcomes.{IsWhole, IsRefused, IsPartial}
use Rattle.dbus_header.specs.StatedLengths.{StatesLength}
use Rattle.dbus_message_model.specs.Messages.{MessageTree}
use Rattle.dbus_value_model.specs.Specification.{specification}
use Rattle.dbus_value_model.specs.declared.fault.Fault.{Fault}
use Rattle.dbus_value_model.specs.declared.order.Order.{Order}
use Rattle.dbus_page.specs.declared.answers.TheConstants.{WHOLE, PARTIAL, REFUSED}
use Rattle.dbus_page.specs.declared.next.Next.{Next}

-- a number that is not 0 is the length that the first bytes state, and 0 says that they state none
pub record States (b : List ℕ) (number : ℕ) : Type 0 where
  pub stated : 0 < number → StatesLength specification b number
  pub none : number ≡ 0 → (n : ℕ) → StatesLength specification b n → ⊥

-- The bytes begin with a message of this length; or they want more and end at this place; or this
-- is the place of their fault. Of bytes there is one such outcome.
pub data Tells (b : List ℕ) (answer : ℕ) (told : Next) : Type 0 where
  whole : (order : Order) (m : MessageTree) → IsWhole specification b order m told.length → answer ≡ WHOLE → told.at ≡ 0 → Tells b answer told
  partial : IsPartial specification b → States b told.length → answer ≡ PARTIAL → told.at ≡ length b → Tells b answer told
  refused : (f : Fault) → IsRefused specification b f → States b told.length → answer ≡ REFUSED → told.at ≡ f.at → Tells b answer told
