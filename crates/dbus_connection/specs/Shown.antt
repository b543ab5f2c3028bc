-- A connection and its events as contracts see them.
use Rattle.std.specs.Prelude.{◌≡◌, ℕ, None, option_map}
use Rattle.dbus_auth.specs.EndViews.{client_end_state, server_end_state}
use Rattle.dbus_pending.specs.Waiting.{allowed, count, last, waiting}
use Rattle.dbus_connection.specs.Standing.{Answer, Stand, Told}
use Rattle.dbus_connection.specs.Standing as stands
use Rattle.dbus_connection.specs.declared.connection.Connection.{Connection}
use Rattle.dbus_connection.specs.declared.event.Event.{Event}
use Rattle.dbus_connection.specs.declared.event.Event.TheVariants as event
use Rattle.dbus_connection.specs.declared.event.Step.{Step}
use Rattle.dbus_connection.specs.declared.phase.Phase.{Phase}
use Rattle.dbus_connection.specs.declared.phase.Phase.TheVariants as phase
use Rattle.dbus_connection.specs.declared.settings.Settings.{Settings}

abbrev pub phase_stand : Phase → Stand
phase_stand (phase.Client side) = stands.Client (client_end_state side.end)
phase_stand (phase.Server end) = stands.Server (server_end_state end)
phase_stand (phase.Messages skip) = stands.Messages skip
phase_stand phase.Closed = stands.Closed

abbrev pub told : Event → Told
told (event.Wants n) = stands.Wants n
told (event.Send send) = stands.Sends send.items
told (event.Begun b) = stands.Begins b.send.items (option_map (λ g. g.0) b.guid) b.agreed
told (event.Message m) = stands.Gives m.view m.fds
told (event.Passed p) = stands.Passes p.length p.header
told (event.Refused fault) = stands.Refuses fault
told event.Failed = stands.Fails
told event.Over = stands.IsOver

abbrev pub answer : Step → Answer
answer s = record { taken = s.taken; told = told s.event }

abbrev pub stand : {T : Type 0} → Connection T → Stand
stand c = phase_stand c.phase

abbrev pub taken_of : {T : Type 0} → Connection T → ℕ
taken_of c = c.taken

abbrev pub settings_of : {T : Type 0} → Connection T → Settings
settings_of c = c.settings

-- it stands there, and nothing was taken or sent
pub record IsNew {T : Type 0} (there : Stand) (settings : Settings) (c : Connection T) : Type 0 where
  pub stands : stand c ≡ there
  pub keeps : settings_of c ≡ settings
  pub taken : taken_of c ≡ 0
  pub none : (s : ℕ) → waiting c.pending s ≡ None
  pub numbers : (last c.pending ≡ 0) × (count c.pending ≡ 0) × (allowed c.pending ≡ settings.calls)

-- what came of the bytes stands
pub record IsAsBefore {T : Type 0} (old new : Connection T) : Type 0 where
  pub stands : stand new ≡ stand old
  pub keeps : settings_of new ≡ settings_of old
  pub taken : taken_of new ≡ taken_of old
