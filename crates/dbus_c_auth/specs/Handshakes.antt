-- What an end of a handshake does, a server's or a client's.
-- D-Bus Specification, "Authentication Protocol".
use Rattle.std.specs.Prelude.{ℕ, List, Option, Some, None, Result, Ok, Err, ◌≡◌, ◌<◌, ◌≤◌, Bool, true, false, ◌++◌, drop, length, nat_le, if◌then◌else◌, option_map}
use Rattle.hex.specs.Hex.{decode_sized}
use Rattle.hex.specs.declared.error.FromHexError.{FromHexError}
use Rattle.dbus_auth.specs.Ends.{ClientEndState, EndOutcome, client_starts, client_takes, ServerEndState, server_takes}
use Rattle.dbus_auth.specs.Bounded.{within}
use Rattle.dbus_auth.specs.declared.bounds.Bounds.{Bounds}
use Rattle.dbus_auth.specs.declared.end_step.Status.{Status}
use Rattle.dbus_auth.specs.World.{server_at_first, client_at_first}
use Rattle.dbus_auth.specs.Machines.{unaccepted}
use Rattle.dbus_auth.specs.declared.states.ServerState.TheVariants as at
use Rattle.dbus_auth.specs.declared.states.ClientState.TheVariants as now
use Rattle.dbus_c_auth.specs.declared.step.Step.{Step}
use Rattle.dbus_c_auth.specs.declared.step.TakeFault.{TakeFault}
use Rattle.dbus_c_auth.specs.declared.step.TakeFault.TheVariants as fault
use Rattle.dbus_c_auth.specs.declared.step.TheConstants.{REPLY_ROOM}
use Rattle.dbus_c_auth.specs.Mechanisms.{user_reported, is_anonymous, passes_descriptors, asked_for}
use Rattle.dbus_c_auth.specs.declared.mechanisms.Mechanisms.{Mechanisms}
use Rattle.dbus_c_auth.specs.declared.handshake.Handshake.{Handshake}
use Rattle.dbus_c_auth.specs.declared.handshake.Handshake.TheVariants as end

-- The text of a server's GUID: 32 hexadecimal digits.
-- D-Bus Specification, "UUIDs".

abbrev pub ok_of : Result (List ℕ) FromHexError → Option (List ℕ)
ok_of (Ok bytes) = Some bytes
ok_of (Err e) = None

-- the 16 bytes that the text spells, if it is 32 digits, in either case
abbrev pub guid_spelled : List ℕ → Option (List ℕ)
guid_spelled text = ok_of (decode_sized text 16)

-- What a call of an end does with its piece and its room.
-- D-Bus Specification, "Authentication Protocol".

-- how many bytes were taken, how many are sent, and where the end stands
abbrev pub IsStep : Step → ℕ → List ℕ → Status → Type 0
IsStep s taken send status = (s.count ≡ taken) × (s.written ≡ length send) × (s.status ≡ status)

-- an end did this with its piece, and what it sends stands at the start of the room, whose other
-- bytes stay
pub record Did {E : Type 0} (s : Step) (new : E) (old_room new_room : List ℕ) (outcome : EndOutcome E) (status_of : E → Status) : Type 0 where
  pub room : REPLY_ROOM ≤ length old_room
  pub step : IsStep s outcome.taken outcome.send (status_of outcome.after)
  pub after : new ≡ outcome.after
  pub written : new_room ≡ outcome.send ++ drop (length outcome.send) old_room

-- why nothing was done with so much room: there is too little exactly if it is less than the room
-- for any reply
abbrev pub IsFault : TakeFault → ℕ → Type 0
IsFault fault.Room room = room < REPLY_ROOM
IsFault fault.Memory room = REPLY_ROOM ≤ room

-- a client's end starts by its first call, which takes nothing; then it takes what it is handed
abbrev pub client_goes_on_at : ClientEndState → List ℕ → Bool → EndOutcome ClientEndState
client_goes_on_at e piece false = client_starts e
client_goes_on_at e piece true = client_takes e piece

abbrev pub client_goes_on : ClientEndState → List ℕ → EndOutcome ClientEndState
client_goes_on e piece = client_goes_on_at e piece e.started

-- the end of a server of this GUID that was handed nothing, and offers these mechanisms
abbrev pub server_of : List ℕ → Mechanisms → ServerEndState
server_of guid m = server_at_first (record {
  guid = guid;
  user = user_reported m;
  anonymous = is_anonymous m;
  descriptors = passes_descriptors m;
  state = at.WaitingForAuth;
  agreed = false;
})

-- the end of a client that has not started, and asks for these mechanisms; there is none if the
-- trace of ANONYMOUS is too long
abbrev pub client_of : Mechanisms → List ℕ → Option ClientEndState
client_of m trace =
    if nat_le (length trace) 255 then Some (client_at_first (unaccepted (passes_descriptors m) now.Fresh (asked_for m trace))) else None

-- the same, as ends of handshakes: the server's GUID is given by its text
abbrev pub server_made : List ℕ → Mechanisms → Option Handshake
server_made text m = option_map (λ guid. end.Server (server_of guid m)) (guid_spelled text)

abbrev pub client_made : Mechanisms → List ℕ → Option Handshake
client_made m trace = option_map end.Client (client_of m trace)

abbrev pub served : EndOutcome ServerEndState → EndOutcome Handshake
served o = record { after = end.Server o.after; taken = o.taken; send = o.send }

abbrev pub asked : EndOutcome ClientEndState → EndOutcome Handshake
asked o = record { after = end.Client o.after; taken = o.taken; send = o.send }

-- a call that is handed this piece
abbrev pub takes : Handshake → List ℕ → EndOutcome Handshake
takes (end.Server e) piece = served (server_takes e piece)
takes (end.Client e) piece = asked (client_goes_on e piece)

-- an end that may send so much from here on
abbrev pub bounded : Bounds → Handshake → Handshake
bounded b (end.Server e) = end.Server (within b e)
bounded b (end.Client e) = end.Client (within b e)

abbrev pub stands_as : Handshake → Status
stands_as (end.Server e) = e.status
stands_as (end.Client e) = e.status

-- the server's GUID, of a client that it has accepted
abbrev pub guid_in : Handshake → Option (List ℕ)
guid_in (end.Server e) = None
guid_in (end.Client e) = e.machine.guid

-- whether both ends agreed to pass descriptors
abbrev pub agreed_in : Handshake → Bool
agreed_in (end.Server e) = e.machine.agreed
agreed_in (end.Client e) = e.machine.agreed

-- an end takes a piece, and what it sends is written to the room; or nothing is changed
abbrev pub TakesIn : Handshake → Handshake → List ℕ → List ℕ → List ℕ → Result Step TakeFault → Type 0
TakesIn old new piece old_room new_room (Ok s) = Did s new old_room new_room (takes old piece) stands_as
TakesIn old new piece old_room new_room (Err f) = IsFault f (length old_room) × (new ≡ old) × (new_room ≡ old_room)
