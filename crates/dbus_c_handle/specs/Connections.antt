-- What the calls of a handle do to its side of a connection, if it keeps one.
-- D-Bus Specification, "Authentication Protocol" and "Message Protocol".
use Rattle.std.specs.Prelude.{◌≡◌, ℕ, List, Option, Some, None, Bool, true, false}
use Rattle.dbus_connection.specs.Standing.{Stand}
use Rattle.dbus_connection.specs.declared.settings.Settings.{Settings}
use Rattle.dbus_c_auth.specs.declared.handshake.Handshake.{Handshake}
use Rattle.dbus_c_connection.specs.Kept.{IsMade, Sends, unstarted}
use Rattle.dbus_c_connection.specs.declared.kept_connection.KeptConnection.{KeptConnection}
use Rattle.dbus_c_handle.specs.declared.kept.Kept.{Kept}
use Rattle.dbus_c_handle.specs.declared.kept.Kept.TheVariants as kept

-- the side that is kept
abbrev pub connection_of : Option Kept → Option KeptConnection
connection_of (Some (kept.Connection k)) = Some k
connection_of _ = None

-- where a connection of an end begins, if there is an end and it may have one
abbrev pub start_of : Option Handshake → Option Stand
start_of None = None
start_of (Some end) = unstarted end

-- a connection that begins there is kept; or there is none, and nothing is
abbrev pub Connects : Option Stand → Settings → Option Kept → (made : Bool) → Type 0
Connects None settings new made = (made ≡ false) × (new ≡ None)
Connects (Some there) settings new made = (made ≡ true) × IsMade (Some there) settings (connection_of new)

-- a side is kept, and after the call one that it became so, with this answer; or none is, and
-- nothing is changed or answered
module _ {A : Type 0} (Becomes : KeptConnection → KeptConnection → A → Type 0) where
  abbrev pub ChangesTo : KeptConnection → Option KeptConnection → Option A → Type 0
  ChangesTo k None answer = ⊥
  ChangesTo k (Some n) None = ⊥
  ChangesTo k (Some n) (Some a) = Becomes k n a

  abbrev pub Changes : Option KeptConnection → (old new : Option Kept) → Option A → Type 0
  Changes (Some k) old new answer = ChangesTo k (connection_of new) answer
  Changes None old new answer = (new ≡ old) × (answer ≡ None)

-- a side writes what it has to send to the room; or none is kept, and nothing is written
abbrev pub SendsFrom : Option KeptConnection → (old new : Option Kept) → (before after : List ℕ) → Option ℕ → Type 0
SendsFrom (Some k) old new before after answer = ChangesTo (λ x y number. Sends x y before after number) k (connection_of new) answer
SendsFrom None old new before after answer = (new ≡ old) × (after ≡ before) × (answer ≡ None)
