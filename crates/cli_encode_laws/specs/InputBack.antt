-- What `json` writes of an input is encoded to that input.
-- RFC 8259, of the messages of the D-Bus Specification, "Message Format".
use Rattle.std.specs.Prelude.{◌≡◌, ◌≢◌, ◌<◌, ◌≤◌, ◌^◌, ℕ, Bool, true, List, [], length, None, Some}
use Rattle.std.specs.List.{AllByRecursion}
use Rattle.dbus_device.specs.Device.{Wrote}
use Rattle.dbus_lines.specs.Lines.{AreLines}
use Rattle.cli_options.specs.declared.command.Command.{Command}
use Rattle.cli_options.specs.declared.command.Output.TheVariants.{JsonLine}
use Rattle.cli_report.specs.Devices.{Reading, Writing}
use Rattle.cli_report.specs.declared.ending.ExitStatus.{ExitStatus}
use Rattle.cli_report.specs.declared.ending.ExitStatus.TheVariants as status
use Rattle.cli_run.specs.Running.{Runs}
use Rattle.cli_encode.specs.Runs.{EncodesLines}
use Rattle.cli_encode.specs.declared.encoding.Encoding.{Encoding}

-- `json` of all messages
abbrev pub json : (times safe : Bool) → Command
json times safe = record { output = JsonLine times safe; selection = None }

-- no line of the text is longer than a line may be
abbrev pub AreShort : (most : ℕ) → (text : List ℕ) → Type 0
AreShort most text = (lines : List (List ℕ)) → AreLines true text lines [] → AllByRecursion (λ line. length line ≤ most) lines

-- a run that is done has written these bytes, and told nothing
pub record IsDoneWith {W E : Type 0} (w : Writing W) (e : Writing E) (end : ExitStatus) (bytes : List ℕ) : Type 0 where
  pub done : end ≡ status.Done
  pub first : Wrote w.held w.failures w.old bytes w.new
  pub second : Wrote e.held e.failures e.old [] e.new

-- `json` ran over an input and refused nothing, so that it is all messages, and `encode` over what
-- `json` wrote, under the same limits, both with safe integers or both without, in the orders that
-- the lines name, and did not fail: then it wrote that input
abbrev pub IsInputBack : (R S W V E F : Type 0) → Type 0
IsInputBack R S W V E F = (r : Reading R) (s : Reading S) (w : Writing W) (v : Writing V) (e : Writing E) (f : Writing F) (times : Bool) (encoding : Encoding) (most more : ℕ) (input text : List ℕ) (end : ExitStatus)
    → r.left r.old ≡ Some input → length input < 2 ^ 64 → Runs r w e encoding.limits most (json times encoding.safe_integers) status.Done
    → w.held w.old ≡ Some [] → w.held w.new ≡ Some text → s.left s.old ≡ Some text
    → encoding.order ≡ None → AreShort encoding.most text → end ≢ status.Failed → EncodesLines s v f encoding more end → IsDoneWith v f end input
