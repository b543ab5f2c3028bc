-- Who is told of what is refused, and of why a run is given up. Of `check`, which makes nothing,
-- the first writer is told what is refused; of other commands the second.
use Rattle.std.specs.Prelude.{◌≡◌, ℕ, Bool, true, false, List, [], Option, Result, Ok, Err}
use Rattle.dbus_device.specs.Device.{Wrote, Stopped}
use Rattle.cli_report.specs.Telling.{Told}
use Rattle.cli_report.specs.Gathering.{Breaks}
use Rattle.cli_report.specs.declared.ending.Cause.{Cause}
use Rattle.cli_report.specs.declared.ending.Cause.TheVariants.{Memory, WriteFailed}
use Rattle.cli_run.specs.declared.visitor.RunStop.{RunStop}
use Rattle.cli_run.specs.declared.visitor.RunStop.TheVariants.{Cause as ByCause, Untold}

-- what the writers get of what is made and what is told
abbrev pub first_of : (is_check : Bool) → (out told : List ℕ) → List ℕ
first_of true out told = told
first_of false out told = out

abbrev pub second_of : (is_check : Bool) → (told : List ℕ) → List ℕ
second_of true told = []
second_of false told = told

-- no write to the first writer failed
abbrev pub IsUnwritten : RunStop → Type 0
IsUnwritten (ByCause WriteFailed) = ⊥
IsUnwritten stop = Unit {0}

module _ {W : Type 0} (held : W → Option (List ℕ)) (failures : W → ℕ) where
  -- a writer got a line, or a write failed after its first bytes; or for want of memory nothing was
  -- written
  abbrev pub WritesLine : List ℕ → W → W → Result (Unit {0}) Cause → Type 0
  WritesLine line w0 w1 (Ok x) = Wrote held failures w0 line w1
  WritesLine line w0 w1 (Err Memory) = w1 ≡ w0
  WritesLine line w0 w1 (Err WriteFailed) = (n : ℕ) × Stopped held failures w0 line n w1
  WritesLine line w0 w1 (Err cause) = ⊥

  -- the first writer got this if a run was given up, but a prefix of it if a write to it failed
  abbrev pub GotFirst : (is_check : Bool) → RunStop → List ℕ → W → W → Type 0
  GotFirst is_check (ByCause WriteFailed) all w0 w1 = Breaks held failures all [] w0 w1
  GotFirst is_check (ByCause cause) all w0 w1 = Wrote held failures w0 all w1
  GotFirst true Untold all w0 w1 = Breaks held failures all [] w0 w1
  GotFirst false Untold all w0 w1 = Wrote held failures w0 all w1

  -- and the second
  abbrev pub GotSecond : (is_check : Bool) → RunStop → List ℕ → W → W → Type 0
  GotSecond is_check (ByCause cause) all w0 w1 = Wrote held failures w0 all w1
  GotSecond true Untold all w0 w1 = Wrote held failures w0 all w1
  GotSecond false Untold all w0 w1 = (n : ℕ) × Stopped held failures w0 all n w1

  -- the second writer is told why a run is given up, unless a write to it failed
  abbrev pub TellsStop : (is_check : Bool) → RunStop → W → W → Type 0
  TellsStop is_check (ByCause cause) w0 w1 = Told held failures w0 w1 cause
  TellsStop true Untold w0 w1 = Told held failures w0 w1 WriteFailed
  TellsStop false Untold w0 w1 = w1 ≡ w0
