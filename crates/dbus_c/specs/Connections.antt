-- What is told by numbers of one side of a connection.
-- D-Bus Specification, "Authentication Protocol" and "Message Protocol".
use Rattle.std.specs.Prelude.{◌≡◌, ℕ, min, replicate, nat_le, Bool, true, false, List, [], ◌∷◌, length, Option, Some, None, Result, Ok, Err, MatchResult, if◌then◌else◌}
use Rattle.std.specs.declared.alloc.AllocError.{AllocError}
use Rattle.dbus_auth_lines.specs.declared.lines.Guid.{Guid}
use Rattle.dbus_connection.specs.Standing.{Stand}
use Rattle.dbus_connection.specs.declared.settings.Settings.{Settings}
use Rattle.dbus_c_connection.specs.Kept.{Calls, GivesUp, IsSame, KeepsOne, Numbers, Takes}
use Rattle.dbus_c_connection.specs.declared.kept_step.KeptStep.{KeptStep}
use Rattle.dbus_c_connection.specs.declared.kept_step.What.{What}
use Rattle.dbus_c_connection.specs.declared.kept_step.What.TheVariants as what
use Rattle.dbus_c_connection.specs.declared.kept_connection.NoCall.{NoCall}
use Rattle.dbus_c_connection.specs.declared.kept_connection.NoCall.TheVariants.{Full, Memory}
use Rattle.dbus_c_handle.specs.Connections.{Changes, Connects, SendsFrom, connection_of}
use Rattle.dbus_c_handle.specs.declared.kept.Kept.{Kept}
use Rattle.dbus_c.specs.GivenLimits.{limits_of}
use Rattle.dbus_c.specs.Rules.{IsOwner}
use Rattle.dbus_c.specs.Reasons.{reason_number, field_named}
use Rattle.dbus_c.specs.declared.answers.TheConstants.{WHOLE, REFUSED, NO_MEMORY, NO_ROOM, NO_VALUE, NO_HANDSHAKE, NO_CONNECTION}
use Rattle.dbus_c.specs.declared.connection_event.TheConstants as event
use Rattle.dbus_c.specs.declared.connections.ConnectionStep.{ConnectionStep}
use Rattle.dbus_c.specs.declared.given_limits.WireLimits.{WireLimits}

-- the settings that numbers stand for
abbrev pub settings_given : WireLimits → (longest calls : ℕ) → Settings
settings_given limits longest calls =
    record { limits = limits_of limits; longest = longest; calls = min calls 65535 }

-- whether a connection is made, by its number
abbrev pub connected_told : Result Bool AllocError → ℕ
connected_told (Ok true) = WHOLE
connected_told (Ok false) = NO_HANDSHAKE
connected_told (Err e) = NO_MEMORY

-- a connection that begins there is made; or there is no such beginning; or memory ran out
pub data IsConnectionMade (start : Option Stand) (settings : Settings) (answer : ℕ) (new : Option Kept) : Type 0 where
  made : (there : Stand) → start ≡ Some there → answer ≡ WHOLE → Connects start settings new true → IsConnectionMade start settings answer new
  none : start ≡ None → answer ≡ NO_HANDSHAKE → new ≡ None → IsConnectionMade start settings answer new
  no_memory : answer ≡ NO_MEMORY → new ≡ None → IsConnectionMade start settings answer new

-- of bytes of which so many were taken, and nothing came
abbrev pub taken_told : (taken : ℕ) → ConnectionStep
taken_told taken = record {
  count = taken;
  wanted = 0;
  call = 0;
  offset = 0;
  event = event.WANTS;
  is_reply = 0;
  unix_fds = 0;
  descriptors = 0;
  reason = 0;
  field = 0;
  serial = 0;
  kind = 0;
  flags = 0;
  guid = replicate 16 0;
}

-- the bytes of a GUID, or zeros
abbrev pub guid_told : Option Guid → List ℕ
guid_told None = replicate 16 0
guid_told (Some guid) = guid.0

-- what came, by its number
abbrev pub what_told : ConnectionStep → What → ConnectionStep
what_told taken (what.Wants n) = record taken { wanted = n }
what_told taken what.Unsent = record taken { event = event.UNSENT }
what_told taken (what.Begun guid agreed) =
    record taken { event = event.BEGUN; descriptors = if agreed then 1 else 0; guid = guid_told guid }
what_told taken (what.Message size fds None) =
    record taken { event = event.MESSAGE; wanted = size; unix_fds = fds }
what_told taken (what.Message size fds (Some call)) =
    record taken { event = event.MESSAGE; wanted = size; unix_fds = fds; is_reply = 1; call = call }
what_told taken (what.Passed p) =
    record taken {
      event = event.PASSED;
      wanted = p.length;
      serial = p.header.serial;
      kind = p.header.kind;
      flags = p.header.flags;
    }
what_told taken (what.Refused fault) =
    record taken { event = event.NO_MESSAGE; offset = fault.at; reason = reason_number fault.reason; field = field_named fault.reason }
what_told taken what.TooFew = record taken { event = event.TOO_FEW }
what_told taken what.Failed = record taken { event = event.FAILED }
what_told taken what.Over = record taken { event = event.OVER }

abbrev pub came_told : KeptStep → ConnectionStep
came_told came = what_told (taken_told came.taken) came.what

-- what came is told; or memory ran out, or there is no connection, and nothing is
abbrev pub IsCameTold : Option (Result KeptStep AllocError) → ℕ → (old new : ConnectionStep) → Type 0
IsCameTold None answer old new = (answer ≡ NO_CONNECTION) × (new ≡ old)
IsCameTold (Some (Err e)) answer old new = (answer ≡ NO_MEMORY) × (new ≡ old)
IsCameTold (Some (Ok came)) answer old new = (answer ≡ WHOLE) × (new ≡ came_told came)

pub record TellsCame (before after : Option Kept) (bytes : List ℕ) (answer : ℕ) (old new : ConnectionStep) : Type 0 where
  pub result : Option (Result KeptStep AllocError)
  pub changes : Changes (λ k n r. MatchResult r (Takes k n bytes) (λ _. IsSame k n)) (connection_of before) before after result
  pub is_told : IsCameTold result answer old new

-- whether a descriptor that came is kept
abbrev pub descriptor_told : Option Bool → ℕ
descriptor_told None = NO_CONNECTION
descriptor_told (Some kept) = if kept then WHOLE else REFUSED

pub record TellsDescriptor (at_hand : ℕ) (before after : Option Kept) (answer : ℕ) : Type 0 where
  pub result : Option Bool
  pub changes : Changes (λ k n r. KeepsOne k n at_hand r) (connection_of before) before after result
  pub is_told : answer ≡ descriptor_told result

-- how many bytes there are to send is told, and whether there was room for them
abbrev pub IsSentTold : Option ℕ → (room : ℕ) → ℕ → (old new : ℕ) → Type 0
IsSentTold None room answer old new = (answer ≡ NO_CONNECTION) × (new ≡ old)
IsSentTold (Some number) room answer old new = (new ≡ number) × (answer ≡ (if nat_le number room then WHOLE else NO_ROOM))

pub record TellsSent (before after : Option Kept) (old_room new_room : List ℕ) (answer : ℕ) (old new : ℕ) : Type 0 where
  pub result : Option ℕ
  pub sends : SendsFrom (connection_of before) before after old_room new_room result
  pub is_told : IsSentTold result (length old_room) answer old new

-- the serial is told
abbrev pub IsSerialTold : Option ℕ → ℕ → (old new : ℕ) → Type 0
IsSerialTold None answer old new = (answer ≡ NO_CONNECTION) × (new ≡ old)
IsSerialTold (Some serial) answer old new = (answer ≡ WHOLE) × (new ≡ serial)

pub record TellsSerial (before after : Option Kept) (answer : ℕ) (old new : ℕ) : Type 0 where
  pub result : Option ℕ
  pub changes : Changes Numbers (connection_of before) before after result
  pub is_told : IsSerialTold result answer old new

-- the name that a call is sent to, or none
abbrev pub destination_given : List ℕ → Option (List ℕ)
destination_given [] = None
destination_given (b ∷ bs) = Some (b ∷ bs)

abbrev pub IsCallTold : Option (Result ℕ NoCall) → ℕ → (old new : ℕ) → Type 0
IsCallTold None answer old new = (answer ≡ NO_CONNECTION) × (new ≡ old)
IsCallTold (Some (Err Full)) answer old new = (answer ≡ NO_ROOM) × (new ≡ old)
IsCallTold (Some (Err Memory)) answer old new = (answer ≡ NO_MEMORY) × (new ≡ old)
IsCallTold (Some (Ok serial)) answer old new = (answer ≡ WHOLE) × (new ≡ serial)

-- the serial of a call that waits is told, or why none waits
pub data TellsCall (destination : List ℕ) (call : ℕ) (before after : Option Kept) (answer : ℕ) (old new : ℕ) : Type 0 where
  no_name : (IsOwner destination → ⊥) → after ≡ before → answer ≡ REFUSED → new ≡ old → TellsCall destination call before after answer old new
  named : IsOwner destination → (result : Option (Result ℕ NoCall))
      → Changes (λ k n r. Calls k n (destination_given destination) call r) (connection_of before) before after result
      → IsCallTold result answer old new → TellsCall destination call before after answer old new

-- the number that a call was given is told, which waits no longer
abbrev pub IsGivenUpTold : Option (Option ℕ) → ℕ → (old new : ℕ) → Type 0
IsGivenUpTold None answer old new = (answer ≡ NO_CONNECTION) × (new ≡ old)
IsGivenUpTold (Some None) answer old new = (answer ≡ NO_VALUE) × (new ≡ old)
IsGivenUpTold (Some (Some call)) answer old new = (answer ≡ WHOLE) × (new ≡ call)

pub record TellsGivenUp (serial : ℕ) (before after : Option Kept) (answer : ℕ) (old new : ℕ) : Type 0 where
  pub result : Option (Option ℕ)
  pub changes : Changes (λ k n r. GivesUp k n serial r) (connection_of before) before after result
  pub is_told : IsGivenUpTold result answer old new
