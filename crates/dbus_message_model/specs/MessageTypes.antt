-- The names of the message types. D-Bus Specification, "Match Rules".
use Rattle.std.specs.Prelude.{ℕ, List, Option, Some, None, ◌==◌, if◌then◌else◌, codes}
use Rattle.dbus_message_model.specs.declared.message_type.TheConstants as message

-- the name of a message type, if it has one
abbrev pub type_name : ℕ → Option (List ℕ)
type_name kind =
    if kind == message.METHOD_CALL then Some (codes "method_call")
    else if kind == message.METHOD_RETURN then Some (codes "method_return")
    else if kind == message.ERROR then Some (codes "error")
    else if kind == message.SIGNAL then Some (codes "signal")
    else None
