-- Where a connection stands, and what a call of it tells. D-Bus Specification, "Authentication
-- Protocol" and "Message Protocol".
use Rattle.std.specs.Prelude.{ℕ, List, [], ◌∷◌, Bool, true, false, Option}
use Rattle.dbus_auth.specs.Ends.{ClientEndState, ServerEndState}
use Rattle.dbus_auth.specs.declared.end_step.Status.{Status}
use Rattle.dbus_auth.specs.declared.end_step.Status.TheVariants as status
use Rattle.dbus_value_model.specs.declared.fault.Fault.{Fault}
use Rattle.dbus_header.specs.declared.fixed_header.FixedHeader.{FixedHeader}
use Rattle.dbus_view.specs.Views.{ViewState}

-- in the handshake, with the end of a client or of a server; among messages, where so many bytes
-- are skipped, of one that is passed over; or it is closed
pub data Stand : Type 0 where
  Client : ClientEndState → Stand
  Server : ServerEndState → Stand
  Messages : (skip : ℕ) → Stand
  Closed : Stand

-- whether messages may be sent
abbrev pub is_open : Stand → Bool
is_open (Messages skip) = true
is_open s = false

-- what came of some bytes
pub data Told : Type 0 where
  -- nothing, and nothing will before so many bytes are at hand
  Wants : ℕ → Told
  -- the handshake goes on, once these bytes are sent
  Sends : List ℕ → Told
  -- messages begin, once these bytes are sent. guid: of the server that accepted this client
  Begins : (send : List ℕ) → (guid : Option (List ℕ)) → (agreed : Bool) → Told
  -- a message, of which so many file descriptors are its own
  Gives : ViewState → (fds : ℕ) → Told
  -- a message of so many bytes, which begins so, is passed over
  Passes : (length : ℕ) → FixedHeader → Told
  Refuses : Fault → Told
  -- the handshake failed
  Fails : Told
  -- nothing does any more
  IsOver : Told

-- how many of the bytes were taken, and what came of them
pub record Answer : Type 0 where
  pub taken : ℕ
  pub told : Told

-- where it stands once this is told
abbrev pub stands_by : Stand → Told → Stand
stands_by s (Begins send guid agreed) = Messages 0
stands_by s (Passes n header) = Messages n
stands_by s (Refuses fault) = Closed
stands_by s Fails = Closed
stands_by s _ = s

-- what an end tells, by where it stands and what it sends
abbrev pub told_by : Status → (send : List ℕ) → Option (List ℕ) → (agreed : Bool) → Told
told_by status.Talking [] guid agreed = Wants 1
told_by status.Talking (b ∷ bs) guid agreed = Sends (b ∷ bs)
told_by status.Begun send guid agreed = Begins send guid agreed
told_by status.Closed send guid agreed = Fails
