-- What is written of one message, and what is read of the next one.
use Rattle.std.specs.Prelude.{◌≡◌, ℕ, Bool, true, false, List, [], ◌++◌, Option, None, Result, Ok, Err}
use Rattle.dbus_validate.specs.declared.validating.Validated.{Validated}
use Rattle.dbus_stream.specs.Next.{DeviceCounts}
use Rattle.dbus_stream.specs.RawReading.{Reads, Advances, ReadsNothing, done_of, kept, source_of, stopped_of}
use Rattle.dbus_stream.specs.declared.raw_reader.RawReader.{RawReader}
use Rattle.cli_run.specs.Output.{begins_file, framed, header_if, is_framed}
use Rattle.cli_report.specs.declared.ending.Cause.TheVariants.{WriteFailed}
use Rattle.cli_run.specs.Inputs.{Placed}
use Rattle.cli_options.specs.declared.file_form.FileForm.{FileForm}
use Rattle.cli_run.specs.declared.framing.Front.{Front}
use Rattle.cli_run.specs.declared.counted.NoMessage.{NoMessage}
use Rattle.cli_run.specs.declared.counted.NoMessage.TheVariants.{Reader, Writer, Enough}
use Rattle.cli_run.specs.declared.place.MessagePlace.{MessagePlace}
use Rattle.cli_run.specs.declared.visitor.RunStop.{RunStop}
use Rattle.cli_run.specs.declared.visitor.RunStop.TheVariants.{Cause as ByCause}

-- what comes before a message of this place in this form
abbrev pub front_of : FileForm → MessagePlace → (begun : Bool) → Front
front_of form place begun = record { begins_file = begins_file form place begun; is_framed = is_framed form place; time = place.time }

-- a message after it
abbrev pub after_front : Front → List ℕ → List ℕ
after_front front bytes = header_if front.begins_file ++ framed front.is_framed front.time bytes

-- a reader stands where it stood, and may have looked at what it keeps
pub record Stays {R A : Type 0} (old now : RawReader R A) : Type 0 where
  pub unread : ReadsNothing old now
  pub kept_is : kept now ≡ kept old
  pub done : done_of now ≡ done_of old
  pub unstopped : stopped_of now ≡ None

module _ {R S : Type 0} (left : R → Option (List ℕ)) (calls failures : R → ℕ) (takes : S → S → List Placed → (told : List ℕ) → Type 0)
    (leaves : S → S → List Placed → (told : List ℕ) → RunStop → Type 0) (settled : S → Type 0) (full : S → Bool) where
  -- what a reader validates of its next message, which it lends. A visitor let go of what it held
  -- back before a read, and if there is no next message. If it wants no more, nothing was looked at
  abbrev pub GivesFrom : {A : Type 0} → RawReader R A → RawReader R A → S → S → Result (Option Validated) NoMessage → Type 0
  GivesFrom from new s0 s1 (Ok validated) = (r : Reads left calls from new) × Advances (kept from ++ r.bytes) from new (Ok validated)
      × (failures (source_of new) ≡ failures (source_of from)) × takes s0 s1 [] [] × (validated ≡ None → settled s1) × (full s1 ≡ false)
  GivesFrom from new s0 s1 (Err (Reader fault)) = (r : Reads left calls from new) × Advances (kept from ++ r.bytes) from new (Err fault)
      × DeviceCounts {T = Option Validated} (failures (source_of from)) (failures (source_of new)) (Err fault) × takes s0 s1 [] [] × settled s1 × (full s1 ≡ false)
  GivesFrom from new s0 s1 (Err Writer) = Reads left calls from new × leaves s0 s1 [] [] (ByCause WriteFailed) × (failures (source_of new) ≡ failures (source_of from))
  GivesFrom from new s0 s1 (Err Enough) = (new ≡ from) × takes s0 s1 [] [] × settled s1 × (full s1 ≡ true)

  abbrev pub GivesNext : {A : Type 0} → RawReader R A → RawReader R A → S → S → Result (Option Validated) NoMessage → Type 0
  GivesNext {A} old new s0 s1 result = (from : RawReader R A) × Stays old from × GivesFrom from new s0 s1 result
