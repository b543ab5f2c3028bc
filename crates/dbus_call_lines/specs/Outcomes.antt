-- What comes of calls. D-Bus Specification, "Message Types" and "Message Format"
-- (NO_REPLY_EXPECTED).
use Rattle.std.specs.Prelude.{ℕ, ◌*◌, nat_lt, List, Option, None, Some, is_some, Bool, true, false, not, ◌||◌, ◌&&◌, ◌==◌, codes, if◌then◌else◌}
use Rattle.std.specs.Option.{unwrap_or}
use Rattle.dbus_message_model.specs.Messages.{MessageTree}
use Rattle.dbus_message_model.specs.declared.field_code.TheConstants as field
use Rattle.dbus_message_model.specs.declared.message_type.TheConstants as message
use Rattle.dbus_calls.specs.Events.{text_at}
use Rattle.dbus_call_lines.specs.Durations.{time_between}
use Rattle.dbus_call_lines.specs.declared.elapsed.Elapsed.{Elapsed}
use Rattle.dbus_call_lines.specs.declared.outcome.Outcome.{Outcome as OutcomeSeen}
use Rattle.dbus_call_lines.specs.declared.outcome.Outcome.TheVariants as seen
use Rattle.dbus_call_lines.specs.declared.place.Place.{Place}
use Rattle.dbus_call_lines.specs.declared.wanted.Wanted.{Wanted}

-- what came of a call
pub data Outcome : Type 0 where
  -- the METHOD_RETURN at this place answered it
  Reply : (at : Place) → Outcome
  -- the ERROR at this place, of this name, answered it
  Error : (at : Place) (name : List ℕ) → Outcome
  -- it wants no reply
  Unwanted : Outcome
  -- nothing: it is open at the end
  Open : Outcome
  -- nothing: its caller left
  Left : Outcome
  -- nothing: its serial was used again
  Replaced : Outcome

-- a text, or `-` if there is none
abbrev pub or_dash : Option (List ℕ) → List ℕ
or_dash text = unwrap_or text (codes "-")

-- what comes of a call that the message at this place ends
abbrev pub outcome_by : Place → MessageTree → Outcome
outcome_by at m =
    if m.kind == message.METHOD_RETURN then Reply at
    else if m.kind == message.ERROR then Error at (or_dash (text_at field.ERROR_NAME m))
    else if m.kind == message.METHOD_CALL then Replaced
    else Left

-- what the code says of it
abbrev pub outcome_seen : OutcomeSeen → Outcome
outcome_seen (seen.Reply at) = Reply at
outcome_seen (seen.Error at name) = Error at name.now
outcome_seen seen.Unwanted = Unwanted
outcome_seen seen.Open = Open
outcome_seen seen.Left = Left
outcome_seen seen.Replaced = Replaced

-- Which calls a list is to have.

-- no reply came, and one is wanted
abbrev pub is_unanswered : Outcome → Bool
is_unanswered Open = true
is_unanswered Left = true
is_unanswered Replaced = true
is_unanswered outcome = false

-- an ERROR came
abbrev pub is_error : Outcome → Bool
is_error (Error at name) = true
is_error outcome = false

-- when the reply was captured, if one came and that is known
abbrev pub replied_at : Outcome → Option ℕ
replied_at (Reply at) = at.time
replied_at (Error at name) = at.time
replied_at outcome = None

-- it is longer than so many milliseconds, if both are known
abbrev pub is_longer : (milliseconds : Option ℕ) → Option Elapsed → Bool
is_longer (Some milliseconds) (Some e) = not e.backwards && nat_lt (milliseconds * 1000000) e.nanoseconds
is_longer milliseconds e = false

-- a reply came so much later than its call. sent is when that was captured, if that is known
abbrev pub is_slow : (slower : Option ℕ) → (sent : Option ℕ) → Outcome → Bool
is_slow slower sent outcome = is_longer slower (time_between sent (replied_at outcome))

-- all calls, or those that are asked for
abbrev pub is_wanted : Wanted → (sent : Option ℕ) → Outcome → Bool
is_wanted wanted sent outcome =
    if wanted.unanswered || wanted.errors || is_some wanted.slower
    then (wanted.unanswered && is_unanswered outcome) || (wanted.errors && is_error outcome) || is_slow wanted.slower sent outcome
    else true
