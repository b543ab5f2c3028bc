-- What a gatherer of messages holds, and what it makes of a piece.
use Rattle.std.specs.Prelude.{◌≡◌, ◌⊎◌, ℕ, ◌+◌, ◌<◌, ◌≤◌, List, [], ◌++◌, length, take, Bool, true, false, Option, None, Some, Result, Ok, Err}
use Rattle.dbus_value_model.specs.declared.order.Order.{Order}
use Rattle.dbus_value_model.specs.declared.limits.Limits.{Limits}
use Rattle.dbus_message_model.specs.Messages.{MessageTree}
use Rattle.dbus_header.specs.MessageOutcomes.{IsWhole, IsRefused, IsPartial}
use Rattle.dbus_validate.specs.declared.validating.Validated.{Validated}
use Rattle.dbus_validate.specs.Validating.{IsValidatedWhole}
use Rattle.dbus_check.specs.declared.checker.Checker.{Checker}
use Rattle.dbus_check.specs.Checks as checks
use Rattle.dbus_stream.specs.Taking.{Taking}
use Rattle.dbus_stream.specs.declared.stream_fault.StreamFault.{StreamFault}
use Rattle.dbus_stream.specs.declared.stream_fault.StreamFault.TheVariants.{Memory, Format}

-- the bytes are a message
abbrev pub IsOneMessage : Limits → List ℕ → Type 0
IsOneMessage limits bytes = (order : Order) × (m : MessageTree) × IsWhole limits bytes order m (length bytes)

pub record GathererState : Type 0 where
  -- the limits that its messages keep
  pub limits : Limits
  -- the bytes of the message under way, or of a whole one
  pub held : List ℕ
  pub whole : Bool
  -- how many bytes of the last piece are the message that it gave
  pub lent : ℕ

-- a gatherer that holds and lends nothing
abbrev pub fresh : Limits → GathererState
fresh limits = record { limits = limits; held = []; whole = false; lent = 0 }

-- of the bytes held, those of a message under way
abbrev pub under_way : Bool → List ℕ → List ℕ
under_way true held = []
under_way false held = held

-- where it lends no message, and begins the next one if it held a whole one
abbrev pub begun : GathererState → GathererState
begun g = record { limits = g.limits; held = under_way g.whole g.held; whole = false; lent = 0 }

-- its checker was handed the bytes of the message under way, and what it holds as whole is a
-- message
pub record IsGathering (limits : Limits) (held : List ℕ) (whole : Bool) (checker : Checker) : Type 0 where
  pub partial : IsPartial limits (under_way whole held)
  pub stands : checks.Stands checker (under_way whole held)
  pub same_limits : checks.limits_of checker ≡ limits
  pub complete : whole ≡ true → IsOneMessage limits held

-- it holds bytes of a message under way, of which more are wanted
pub record IsUnderWay (g : GathererState) : Type 0 where
  pub partial : IsPartial g.limits g.held
  pub not_whole : g.whole ≡ false
  pub unlent : g.lent ≡ 0

-- the message ends with the first n bytes of the piece, of which there is one at least, and is held
pub record Gathered (old : GathererState) (piece : List ℕ) (n : ℕ) (new : GathererState) : Type 0 where
  pub fits : n ≤ length piece
  pub some : 0 < n
  pub order : Order
  pub message : MessageTree
  pub whole : IsWhole old.limits (old.held ++ piece) order message (length old.held + n)
  pub state : new ≡ record old { held = old.held ++ take n piece; whole = true }

abbrev pub Gathers : GathererState → List ℕ → GathererState → Result (Option ℕ) StreamFault → Type 0
Gathers old piece new (Ok (Some n)) = Gathered old piece n new
Gathers old piece new (Ok None) = IsPartial old.limits (old.held ++ piece) × (new ≡ record old { held = old.held ++ piece })
Gathers old piece new (Err Memory) = new ≡ old
Gathers old piece new (Err (Format fault)) = IsRefused old.limits (old.held ++ piece) fault × IsPartial old.limits old.held × (new ≡ old)

-- it holds these bytes of the message under way, and lends no message
abbrev pub Rests : GathererState → Type 0
Rests g = (g.whole ≡ false) × (g.lent ≡ 0)

-- the message of so many bytes that bytes begin with is validated, and held or lent
pub record Lends (g : GathererState) (bytes : List ℕ) (size : ℕ) (j : Validated) : Type 0 where
  pub validated : IsValidatedWhole g.limits (take size bytes) j
  pub place : ((g.whole ≡ true) × (g.held ≡ take size bytes) × (g.lent ≡ 0)) ⊎ ((g.whole ≡ false) × (g.held ≡ []) × (g.lent ≡ size))

-- what is known of a gatherer as the taker of a reader
abbrev pub gathering : Taking GathererState Validated
gathering = record {
  limits = λ g. g.limits;
  holds = λ g w. under_way g.whole g.held ≡ w;
  keeps = λ g w. (g.held ≡ w) × Rests g;
  grows = Unit {0};
  gives = Lends;
  lent = λ g. g.lent;
  rests = Rests;
}
