-- What the writers get if a run is given up.
use Rattle.std.specs.Prelude.{◌≡◌, ℕ, List, [], Option, Result, Ok, Err}
use Rattle.dbus_device.specs.Device.{Wrote, Stopped}
use Rattle.cli_report.specs.Gathering.{Breaks}
use Rattle.cli_report.specs.Telling.{Told}
use Rattle.cli_report.specs.declared.ending.Cause.TheVariants.{Memory, WriteFailed}
use Rattle.cli_encode.specs.declared.ending.Stop.{Stop}
use Rattle.cli_encode.specs.declared.ending.Stop.TheVariants.{Cause as ByCause, Untold}

module _ {W : Type 0} (held : W → Option (List ℕ)) (failures : W → ℕ) where
  -- the first writer got all, but a prefix if a write to it failed
  abbrev pub GotFirst : Stop → (all : List ℕ) → W → W → Type 0
  GotFirst (ByCause WriteFailed) all old new = Breaks held failures all [] old new
  GotFirst stop all old new = Wrote held failures old all new

  -- and the second, which is not told yet why
  abbrev pub GotSecond : Stop → (all : List ℕ) → W → W → Type 0
  GotSecond Untold all old new = (n : ℕ) × Stopped held failures old all n new
  GotSecond stop all old new = Wrote held failures old all new

  -- it is told why, unless a write to it failed
  abbrev pub TellsStop : Stop → W → W → Type 0
  TellsStop (ByCause cause) old new = Told held failures old new cause
  TellsStop Untold old new = new ≡ old

  -- a line was told; or for want of memory nothing, or a write of it failed
  abbrev pub TellsLine : List ℕ → W → W → Result (Unit {0}) Stop → Type 0
  TellsLine line old new (Ok x) = Wrote held failures old line new
  TellsLine line old new (Err (ByCause Memory)) = new ≡ old
  TellsLine line old new (Err (ByCause cause)) = ⊥
  TellsLine line old new (Err Untold) = (n : ℕ) × Stopped held failures old line n new
