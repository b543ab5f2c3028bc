-- What becomes of an encoder and of the writers by a line.
use Rattle.std.specs.Prelude.{◌≡◌, ◌⊎◌, ◌+◌, ℕ, true, false, ◌||◌, List, [], Option, Result, Ok, Err, string_bytes}
use Rattle.dbus_device.specs.Device.{Wrote, Stopped}
use Rattle.cli_report.specs.Gathering.{Breaks, Passes, gathered_bytes}
use Rattle.cli_report.specs.declared.ending.Cause.TheVariants.{Memory, WriteFailed}
use Rattle.cli_encode.specs.Outcomes.{Outcome, IsOutcome, bytes_of, is_refused, serial_after, text_of}
use Rattle.cli_encode.specs.Outcomes as outcome
use Rattle.cli_encode.specs.declared.encoder.Encoder.{Encoder}
use Rattle.cli_encode.specs.declared.encoder.Made.{Made}
use Rattle.cli_encode.specs.declared.encoder.Made.TheVariants as made
use Rattle.cli_encode.specs.declared.ending.Stop.{Stop}
use Rattle.cli_encode.specs.declared.ending.Stop.TheVariants.{Cause as ByCause, Untold}

-- what became of a line, whose message has these bytes if it is written
abbrev pub outcome_of : {A : Type 0} → Made A → (bytes : List ℕ) → Outcome
outcome_of made.Passed bytes = outcome.Passed
outcome_of made.Written bytes = outcome.Written bytes
outcome_of (made.Refused why explained) bytes = outcome.Refused why (string_bytes explained)

module _ {A : Type 0} where
  -- no line was taken yet
  pub record IsNewEncoder (new : Encoder A) : Type 0 where
    pub number : new.number ≡ 0
    pub serial : new.serial ≡ 1
    pub refused : new.refused ≡ false
    pub nothing : gathered_bytes new.gathered ≡ []

  -- no line was taken
  pub record SameState (old new : Encoder A) : Type 0 where
    pub encoding : new.encoding ≡ old.encoding
    pub number : new.number ≡ old.number
    pub serial : new.serial ≡ old.serial
    pub refused : new.refused ≡ old.refused

  module _ {W E : Type 0} (held : W → Option (List ℕ)) (failures : W → ℕ) (second_held : E → Option (List ℕ)) (second_failures : E → ℕ) where
    -- this became of a line
    pub record Takes (line : List ℕ) (done : Outcome) (old new : Encoder A) (w0 w1 : W) (e0 e1 : E) : Type 0 where
      pub is : IsOutcome old.encoding old.serial line done
      pub encoding : new.encoding ≡ old.encoding
      pub number : new.number ≡ old.number + 1
      pub serial : new.serial ≡ serial_after done old.serial
      pub refused : new.refused ≡ (old.refused || is_refused done)
      pub passes : Passes held failures (bytes_of done) (gathered_bytes old.gathered) (gathered_bytes new.gathered) w0 w1
      pub settled : is_refused done ≡ true → gathered_bytes new.gathered ≡ []
      pub tells : Wrote second_held second_failures e0 (text_of new.number done) e1

    -- so far a line was taken if the run is given up by it
    abbrev pub TakesNot : Stop → (line : List ℕ) → (old : Encoder A) → W → W → E → E → Type 0
    TakesNot (ByCause Memory) line old w0 w1 e0 e1 = Passes held failures [] (gathered_bytes old.gathered) [] w0 w1 × (e1 ≡ e0)
    TakesNot (ByCause WriteFailed) line old w0 w1 e0 e1 = (e1 ≡ e0) × (Breaks held failures [] (gathered_bytes old.gathered) w0 w1
        ⊎ ((bytes : List ℕ) × IsOutcome old.encoding old.serial line (outcome.Written bytes) × Breaks held failures bytes (gathered_bytes old.gathered) w0 w1))
    TakesNot (ByCause cause) line old w0 w1 e0 e1 = ⊥
    TakesNot Untold line old w0 w1 e0 e1 = (done : Outcome) × IsOutcome old.encoding old.serial line done
        × Passes held failures (bytes_of done) (gathered_bytes old.gathered) [] w0 w1 × ((n : ℕ) × Stopped second_held second_failures e0 (text_of (old.number + 1) done) n e1)

    abbrev pub TakesLine : List ℕ → Encoder A → Encoder A → W → W → E → E → Result (Unit {0}) Stop → Type 0
    TakesLine line old new w0 w1 e0 e1 (Ok x) = (done : Outcome) × Takes line done old new w0 w1 e0 e1
    TakesLine line old new w0 w1 e0 e1 (Err stop) = TakesNot stop line old w0 w1 e0 e1
