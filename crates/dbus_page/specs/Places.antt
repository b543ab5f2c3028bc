-- Where a message stands in the page's input.
use Rattle.std.specs.Prelude.{◌≡◌, ℕ, List, Option, None, Some, length, nat_eq, if◌then◌else◌}
use Rattle.dbus_explain.specs.declared.message.Refused.{Refused}
use Rattle.dbus_header.specs.MessageOutcomes.{IsWhole}
use Rattle.dbus_header.specs.NoMessage.{IsFaultAtEnd}
use Rattle.dbus_message_model.specs.Messages.{MessageTree}
use Rattle.dbus_json.specs.declared.place.LinePlace.{LinePlace}
use Rattle.dbus_value_model.specs.Specification.{specification}
use Rattle.dbus_value_model.specs.declared.order.Order.{Order}
use Rattle.dbus_page.specs.declared.json_line.PagePlace.{PagePlace}

-- a time that is known, unless has_time is 0
abbrev pub time_if : (has_time time : ℕ) → Option ℕ
time_if has_time time = if nat_eq has_time 0 then None else Some time

-- as a line takes it: its time if it has one
abbrev pub line_place : PagePlace → LinePlace
line_place p = record { number = p.number; offset = p.offset; time = time_if p.has_time p.time }

-- these bytes, which are all that there is, begin with no message, and have this fault
pub record IsRefusedAt (bytes : List ℕ) (number offset : ℕ) (refused : Refused) : Type 0 where
  pub bytes_are : refused.bytes.now ≡ bytes
  pub fault : IsFaultAtEnd specification bytes refused.fault
  pub number_is : refused.number ≡ number
  pub offset_is : refused.offset ≡ offset

-- they are a message within the limits of the specification, all of them
abbrev pub IsMessage : (bytes : List ℕ) → Type 0
IsMessage bytes = (order : Order) × (m : MessageTree) × IsWhole specification bytes order m (length bytes)
