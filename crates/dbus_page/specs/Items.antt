-- What is told of where the parts of a message stand.
-- D-Bus Specification, "Type System" and "Message Format".
use Rattle.std.specs.Prelude.{◌≡◌, ℕ, List, nat_le, if◌then◌else◌}
use Rattle.dbus_flatten.specs.Flattening.{ArePartsFlat}
use Rattle.dbus_flatten.specs.declared.flat_item.FlatItem.{FlatItem}
use Rattle.dbus_flatten.specs.declared.parts.PartsCount.{PartsCount}
use Rattle.dbus_message_model.specs.Messages.{MessageTree, body_start}
use Rattle.dbus_value_model.specs.declared.order.Order.{Order}
use Rattle.dbus_page.specs.declared.answers.TheConstants.{WHOLE, NO_ROOM, NO_TEXT}

-- the items of the message's header fields, and then of its body's values, as many as there is room
-- for
abbrev pub AreItems : Order → MessageTree → (old new : List FlatItem) → PartsCount → Type 0
AreItems order m old new count = ArePartsFlat order m.fields (body_start order m.fields) m.body 0 old new count

-- whether there is room for all
abbrev pub room_answer : (room : ℕ) → PartsCount → ℕ
room_answer room count = if nat_le count.all room then WHOLE else NO_ROOM

-- there are none, and nothing is written
pub record AreNoItems (old new : List FlatItem) (before count : PartsCount) (answer : ℕ) : Type 0 where
  pub told : answer ≡ NO_TEXT
  pub unchanged : new ≡ old
  pub uncounted : count ≡ before
