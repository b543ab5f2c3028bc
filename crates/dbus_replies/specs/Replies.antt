-- Which waiting call a message answers, and which calls wait then. D-Bus Specification, "Message
-- Types" ("Method Calls"), "Header Fields" (REPLY_SERIAL, SENDER).
use Rattle.std.specs.Prelude.{ℕ, nat_eq, List, Option, None, ◌&&◌, is_some, if◌then◌else◌}
use Rattle.dbus_calls.specs.Waiting.{answered}
use Rattle.dbus_calls.specs.Events.{Event}
use Rattle.dbus_calls.specs.Events.Event.{Replies}

-- Of the calls that wait each by its serial, and whom each was sent to.
module _ {T : Type 0} (sent_to : T → Option (List ℕ)) (waiting : ℕ → Option T) where
  -- the call that waits with the serial that a reply names, if its sender may answer it
  abbrev pub answered_by : Event → Option T
  answered_by (Replies caller serial sender) = answered sent_to (waiting serial) sender
  answered_by event = None

  -- the call that a reply answers waits no longer
  abbrev pub waiting_after : Event → ℕ → Option T
  waiting_after (Replies caller serial sender) s =
      if nat_eq serial s && is_some (answered sent_to (waiting serial) sender) then None else waiting s
  waiting_after event s = waiting s
