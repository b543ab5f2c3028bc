-- How many lines an end with bounds sends, whoever its peer is. D-Bus Specification,
-- "Authentication Protocol".
use Rattle.std.specs.Prelude.{ℕ, ◌+◌, ◌*◌, ◌≤◌, ◌≡◌, ◌⊎◌, [], Option, Some, length}
use Rattle.dbus_auth_lines.specs.Cut.{More, cut}
use Rattle.dbus_auth.specs.Machines.{ClientMachine, ServerMachine}
use Rattle.dbus_auth.specs.Ends.{ClientEndState, EndState, ServerEndState}
use Rattle.dbus_auth.specs.World.{EndRun, IsFinished, World, at_first, client_at_first, last_lines, server_at_first}
use Rattle.dbus_auth.specs.declared.bounds.Bounds.{Bounds}
use Rattle.dbus_auth.specs.declared.end_step.Status.TheVariants as status

-- an end that may send so much from here on
abbrev pub within : {M : Type 0} → Bounds → EndState M → EndState M
within b e = record e { left = Some b }

-- both ends, with bounds or without, and nothing between them
abbrev pub server_within : Option Bounds → ServerMachine → ServerEndState
server_within left s = record (server_at_first s) { left = left }

abbrev pub client_within : Option Bounds → ClientMachine → ClientEndState
client_within left c = record (client_at_first c) { left = left }

abbrev pub at_first_within : (server client : Option Bounds) → ServerMachine → ClientMachine → World
at_first_within server client s c = record (at_first s c) { server = server_within server s; client = client_within client c }

-- of a server: DATA and OK of each try, of which all but the last end by REJECTED, and the lines
-- that leave it in its state
abbrev pub server_most : Bounds → ℕ
server_most b = 2 * (b.rejections + 1) + b.rejections + b.errors

-- of a client: AUTH, DATA and CANCEL of each mechanism, the lines that end its part, and ERROR
abbrev pub client_most : ClientMachine → Bounds → ℕ
client_most c b = 3 * length c.left + last_lines c + b.errors

-- it waits for its peer: all that came was taken, and what it keeps is no whole line
abbrev pub IsWaiting : {M : Type 0} → EndRun M → Type 0
IsWaiting run = (run.after.status ≡ status.Talking) × (run.left ≡ []) × (cut run.after.kept ≡ More)

pub record StaysWithin {M : Type 0} (most : ℕ) (run : EndRun M) : Type 0 where
  pub lines : length run.said ≤ most
  pub stands : IsFinished run → (run.after.status ≡ status.Begun) ⊎ ((run.after.status ≡ status.Closed) ⊎ IsWaiting run)
