-- What the values of the body that are whole before a fault are of a message that is whole.
-- D-Bus Specification, "Message Format".
use Rattle.std.specs.Prelude.{◌≡◌, ℕ, List, ◌++◌, take}
use Rattle.dbus_value_model.specs.Values.{ValueTree, ValueTrees, value_trees}
use Rattle.dbus_value_model.specs.declared.limits.Limits.{Limits}
use Rattle.dbus_value_model.specs.declared.order.Order.{Order}
use Rattle.dbus_message_model.specs.Messages.{IsMessage, MessageTree, body_start, message_bytes}
use Rattle.dbus_explain.specs.Before.{AreWholeValues}
use Rattle.dbus_explain.specs.Places.{body_begin, order_of}

-- They are the first values of the body of each message that has the same bytes up to the last one's
-- end, in the same byte order and at the same place.
abbrev pub FirstValues : Type 0
FirstValues = (bytes : List ℕ) (at : ℕ) (vs : ValueTrees) (whole : AreWholeValues bytes at vs) (limits : Limits) (order : Order) (m : MessageTree)
    → IsMessage limits order m → take whole.end (message_bytes order m) ≡ take whole.end bytes
    → (order_of bytes ≡ order) × (body_begin bytes ≡ body_start order m.fields)
    × (xs : List ValueTree) × (more : List ValueTree) × (vs ≡ value_trees xs) × (m.body ≡ value_trees (xs ++ more))
