-- Which of the first bytes of a message show why it is refused.
use Rattle.std.specs.Prelude.{◌≡◌, ◌⊎◌, ℕ, ◌≤◌, List, length}
use Rattle.dbus_value_model.specs.declared.fault.Fault.{Fault}
use Rattle.dbus_value_model.specs.declared.limits.Limits.{Limits}
use Rattle.dbus_header.specs.MessageOutcomes.{IsRefused}
use Rattle.cli_report.specs.Gathering.{IsPrefixTo}

-- the fewest of the first bytes that are refused; or all of them, if none are, since the input ends
-- there
pub record IsFaultFront (limits : Limits) (bytes front : List ℕ) : Type 0 where
  pub prefix : IsPrefixTo front bytes
  pub shown : ((fault : Fault) × IsRefused limits front fault) ⊎ (front ≡ bytes)
  pub least : (first : List ℕ) → IsPrefixTo first bytes → (fault : Fault) → IsRefused limits first fault → length front ≤ length first
