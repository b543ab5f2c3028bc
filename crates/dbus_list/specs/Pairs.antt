-- Which call the line of a reply tells. D-Bus Specification, "Message Types" ("Method Calls").
use Rattle.std.specs.Prelude.{◌≡◌, ℕ, List, Option, None, Some, option_map, string_bytes}
use Rattle.dbus_message_model.specs.declared.field_code.TheConstants as field
use Rattle.dbus_calls.specs.Events.{destination_of, text_at}
use Rattle.dbus_calls.specs.Kept.{waiting}
use Rattle.dbus_calls.specs.Pairing.{Answers, run}
use Rattle.dbus_calls.specs.Waiting.{no_calls}
use Rattle.dbus_call_lines.specs.Durations.{time_between}
use Rattle.dbus_call_lines.specs.Listing.{Numbered, message_of}
use Rattle.dbus_call_lines.specs.Outcomes.{or_dash}
use Rattle.dbus_call_lines.specs.declared.elapsed.Elapsed.{Elapsed}
use Rattle.dbus_call_lines.specs.declared.place.Place.{Place}
use Rattle.dbus_list.specs.declared.call_table.CallTable.{CallTable}
use Rattle.dbus_list.specs.declared.known_call.AnsweredCall.{AnsweredCall}
use Rattle.dbus_list.specs.declared.known_call.KnownCall.{KnownCall}

-- what the line of a reply tells of a call: its number and its member, and how long the reply took,
-- if that is known
pub record ToldCall : Type 0 where
  pub number : ℕ
  pub member : List ℕ
  pub took : Option Elapsed

-- what it tells of this one. replied is when the reply was captured
abbrev pub told_of : (replied : Option ℕ) → Numbered → ToldCall
told_of replied call = record { number = call.place.number; member = or_dash (text_at field.MEMBER call.message); took = time_between call.place.time replied }

-- Messages came before, and then this one: its line tells this of the call that it answers; or it
-- answers none of them.
abbrev pub TellsCall : (before : List Numbered) → Numbered → Option ToldCall → Type 0
TellsCall before x (Some told) = (call : Numbered) × Answers message_of before x call × (told ≡ told_of x.place.time call)
TellsCall before x None = (call : Numbered) → Answers message_of before x call → ⊥

-- what the code says of it
abbrev pub call_seen : AnsweredCall → ToldCall
call_seen call = record { number = call.number; member = call.member.now; took = call.took }

-- ---- what is kept of the calls that wait

pub record KeptCall : Type 0 where
  pub place : Place
  pub destination : Option (List ℕ)
  pub member : List ℕ

abbrev pub kept : KnownCall → KeptCall
kept call =
    let parts = call.parts.value in
    record { place = parts.place; destination = option_map string_bytes parts.destination; member = string_bytes parts.member }

abbrev pub kept_of : Numbered → KeptCall
kept_of call = record { place = call.place; destination = destination_of call.message; member = or_dash (text_at field.MEMBER call.message) }

-- what is told of a call that is kept
abbrev pub told_kept : (replied : Option ℕ) → KeptCall → ToldCall
told_kept replied call = record { number = call.place.number; member = call.member; took = time_between call.place.time replied }

abbrev pub told : (replied : Option ℕ) → KnownCall → ToldCall
told replied call = told_kept replied (kept call)

-- the table keeps the calls that wait after these messages
unfoldable pub KeepsCalls : (before : List Numbered) → CallTable → Type 0
KeepsCalls before table = (caller : List ℕ) (serial : ℕ) → option_map kept (waiting table.open caller serial) ≡ option_map kept_of (run message_of no_calls before caller serial)
