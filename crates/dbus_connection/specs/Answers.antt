-- What a call of a connection tells of the bytes that it is handed. D-Bus Specification,
-- "Authentication Protocol" and "Message Protocol".
use Rattle.std.specs.Prelude.{◌≡◌, ℕ, ◌+◌, ◌-◌, List, length, drop, min, None, if◌then◌else◌}
use Rattle.dbus_auth.specs.Ends.{ClientEndState, EndOutcome, ServerEndState, client_starts, client_takes, server_takes}
use Rattle.dbus_connection.specs.Reading.{IsRead}
use Rattle.dbus_connection.specs.Standing.{Answer, Client, Closed, IsOver, Messages, Server, Stand, Told, told_by}
use Rattle.dbus_connection.specs.declared.settings.Settings.{Settings}

-- a client's end starts by its first call, which takes nothing
abbrev pub client_goes_on : ClientEndState → List ℕ → EndOutcome ClientEndState
client_goes_on e bytes = if e.started then client_takes e bytes else client_starts e

-- what an end did, told
abbrev pub client_answer : EndOutcome ClientEndState → Answer
client_answer o = record {
  taken = o.taken;
  told = told_by o.after.status o.send o.after.machine.guid o.after.machine.agreed;
}

abbrev pub server_answer : EndOutcome ServerEndState → Answer
server_answer o = record {
  taken = o.taken;
  told = told_by o.after.status o.send None o.after.machine.agreed;
}

-- the bytes that are skipped are taken, and then what those behind them are
abbrev pub IsReadPast : Settings → (skip : ℕ) → (bytes : List ℕ) → (taken : ℕ) → Told → Type 0
IsReadPast settings skip bytes taken told =
    (more : ℕ) × IsRead settings (drop skip bytes) more told
    × (taken ≡ min skip (length bytes) + more)

-- with the end as it is after the call, or fewer bytes to skip
abbrev pub gone_on : Stand → List ℕ → Stand
gone_on (Client e) bytes = Client (client_goes_on e bytes).after
gone_on (Server e) bytes = Server (server_takes e bytes).after
gone_on (Messages skip) bytes = Messages (skip - length bytes)
gone_on Closed bytes = Closed

-- in the handshake it tells what its end did, and past it what the bytes are
abbrev pub Answers : Settings → Stand → List ℕ → Answer → Type 0
Answers settings (Client e) bytes a = a ≡ client_answer (client_goes_on e bytes)
Answers settings (Server e) bytes a = a ≡ server_answer (server_takes e bytes)
Answers settings (Messages skip) bytes a = IsReadPast settings skip bytes a.taken a.told
Answers settings Closed bytes a = a ≡ record { taken = 0; told = IsOver }
