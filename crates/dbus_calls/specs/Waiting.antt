-- The calls that wait for a reply, at most one of each caller and serial, and how they change.
-- D-Bus Specification, "Message Types".
use Rattle.std.specs.Prelude.{ℕ, nat_eq, List, Option, None, Some, Bool, ◌&&◌, if◌then◌else◌}
use Rattle.std.specs.Str.{bytes_eq}
use Rattle.dbus_calls.specs.Answering.{may_answer}

-- the call of each caller and serial that waits
abbrev pub Waiting : Type 0 → Type 0
Waiting T = (caller : List ℕ) → (serial : ℕ) → Option T

-- they are of one caller and serial
abbrev pub is_same : List ℕ → ℕ → List ℕ → ℕ → Bool
is_same caller serial c s = bytes_eq caller c && nat_eq serial s

module _ {T : Type 0} where
  abbrev pub no_calls : Waiting T
  no_calls caller serial = None

  -- this call of the caller and the serial waits, in place of the one that did
  abbrev pub with_call : List ℕ → ℕ → T → Waiting T → Waiting T
  with_call caller serial call w c s = if is_same caller serial c s then Some call else w c s

  -- none of the caller and the serial waits
  abbrev pub without_call : List ℕ → ℕ → Waiting T → Waiting T
  without_call caller serial w c s = if is_same caller serial c s then None else w c s

  -- none of the caller waits
  abbrev pub without_caller : List ℕ → Waiting T → Waiting T
  without_caller caller w c s = if bytes_eq caller c then None else w c s

  -- A reply comes of this sender, to the call of a caller and a serial that waits, if one does.
  module _ (sent_to : T → Option (List ℕ)) where
    -- the call that it answers
    abbrev pub answered : Option T → (sender : Option (List ℕ)) → Option T
    answered None sender = None
    answered (Some call) sender = if may_answer (sent_to call) sender then Some call else None

    -- what waits after it
    abbrev pub after_reply : Option T → List ℕ → ℕ → (sender : Option (List ℕ)) → Waiting T → Waiting T
    after_reply None caller serial sender w c s = w c s
    after_reply (Some call) caller serial sender w c s = if may_answer (sent_to call) sender then without_call caller serial w c s else w c s
