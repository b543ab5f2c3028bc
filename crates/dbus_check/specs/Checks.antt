-- What a checker answers of all bytes that it was handed.
-- D-Bus Specification, "Message Protocol".
use Rattle.std.specs.Prelude.{◌≡◌, ℕ, ◌<◌, ◌≤◌, List, ◌++◌, length, take, Result, Ok, Err, ◌+◌, Option, Some, None}
use Rattle.dbus_value_model.specs.declared.fault.Fault.{Fault}
use Rattle.dbus_value_model.specs.Reading.{Faulty, Partial}
use Rattle.dbus_value_model.specs.ByteNumbers.{IsBytes}
use Rattle.dbus_value_model.specs.declared.limits.Limits.{Limits}
use Rattle.dbus_value_model.specs.declared.order.Order.{Order}
use Rattle.dbus_message_model.specs.Messages.{MessageTree}
use Rattle.dbus_header.specs.MessageOutcomes.{IsWhole, IsRefused, IsPartial}
use Rattle.dbus_check.specs.Progress.{To, Denotes, after_bytes}
use Rattle.dbus_check.specs.Progress as progress
use Rattle.dbus_check.specs.declared.pieces.Pieces.{Pieces}
use Rattle.dbus_check.specs.declared.check.Check.{Check}
use Rattle.dbus_check.specs.declared.check.Check.TheVariants as check
use Rattle.dbus_check.specs.Heading.{message_on}

-- What the fields of `Pieces` stand for: what they answer to the bytes still to come.

-- the message stands for the answers to the bytes that are kept and those after them; the kept ones
-- are not whole
pub record Holds (x : Pieces) (to : To) : Type 0 where
  pub from : To
  pub denotes : Denotes x.progress from
  pub same : (c : List ℕ) → from (x.kept.items ++ c) ≡ to c
  pub few : length x.kept.items < 20
  pub waits : 0 < length x.kept.items → from x.kept.items ≡ Partial

-- something is wanted still
abbrev pub IsLive : Pieces → Type 0
IsLive x = progress.IsLive x.progress.stage

-- a part of the bytes s was taken or kept; or a fault shows
abbrev pub Joined : List ℕ → Result ℕ Fault → Pieces → To → Type 0
Joined s (Ok n) new to = (n ≤ length s) × Holds new (after_bytes to (take n s))
Joined s (Err f) new to = (c : List ℕ) → to (s ++ c) ≡ Faulty f

-- the same, and where something is wanted still, all of them were, and they show no more
abbrev pub Fed : List ℕ → Result ℕ Fault → Pieces → To → Type 0
Fed s (Ok n) new to = (n ≤ length s) × Holds new (after_bytes to (take n s)) × (IsLive new → (n ≡ length s) × (to s ≡ Partial))
Fed s (Err f) new to = (c : List ℕ) → to (s ++ c) ≡ Faulty f

-- a checker: the limits of its message, what is noted of that, and the fault that it stays with
pub record CheckerState : Type 0 where
  pub limits : Limits
  pub pieces : Pieces
  pub refused : Option Fault

abbrev pub limits_of : CheckerState → Limits
limits_of x = x.limits

-- what is noted goes on after these bytes, or their fault stays whatever follows
abbrev pub StandsAfter : CheckerState → List ℕ → Option Fault → Type 0
StandsAfter x w None = Holds x.pieces (after_bytes (message_on x.limits 0) w)
StandsAfter x w (Some f) = (c : List ℕ) → message_on x.limits 0 (w ++ c) ≡ Faulty f

-- w is all that the checker took since it was made or began again: the bytes of the message under
-- way
pub record Stands (x : CheckerState) (w : List ℕ) : Type 0 where
  pub bytes : IsBytes w
  pub after : StandsAfter x w x.refused

-- the bytes of the piece that are taken: up to the message's end
abbrev pub taken : List ℕ → Check → List ℕ
taken piece check.Partial = piece
taken piece (check.Done n) = take n piece
taken piece (check.Refused f) = piece

-- what is answered to a piece after the bytes w: the outcome of all of them under the limits
abbrev pub Takes : Limits → List ℕ → List ℕ → Check → Type 0
Takes limits w piece check.Partial = IsPartial limits (w ++ piece)
Takes limits w piece (check.Done n) = (n ≤ length piece) × (order : Order) × (m : MessageTree) × IsWhole limits (w ++ piece) order m (length w + n)
Takes limits w piece (check.Refused f) = IsRefused limits (w ++ piece) f

-- each outcome of all of them under the limits has one answer
pub record IsExact (limits : Limits) (w piece : List ℕ) (answer : Check) : Type 0 where
  pub whole : (order : Order) (m : MessageTree) (n : ℕ) → IsWhole limits (w ++ piece) order m (length w + n) → answer ≡ check.Done n
  pub refused : (f : Fault) → IsRefused limits (w ++ piece) f → answer ≡ check.Refused f
  pub partial : IsPartial limits (w ++ piece) → answer ≡ check.Partial
