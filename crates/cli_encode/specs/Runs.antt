-- What the command does with what it reads, what it writes of it, and why it gives up. encoding
-- says how lines are encoded, and most how many reads may be made.
use Rattle.std.specs.Prelude.{◌≡◌, ◌⊎◌, ℕ, Bool, true, false, List, [], Option, Result, Ok, Err}
use Rattle.std.specs.Io.KnownBytes.{Consumes, IsAtEnd}
use Rattle.dbus_device.specs.Device.{one_more, RisesBy, Wrote}
use Rattle.cli_report.specs.Devices.{Reading, RisesAtMost, Taken, Writing, taken}
use Rattle.cli_report.specs.Gathering.{Breaks, Passes}
use Rattle.cli_report.specs.declared.ending.Cause.{Cause}
use Rattle.cli_report.specs.declared.ending.Cause.TheVariants.{Memory, ReadFailed, WriteFailed, TooManyReads}
use Rattle.cli_report.specs.declared.ending.ExitStatus.{ExitStatus}
use Rattle.cli_report.specs.declared.ending.ExitStatus.TheVariants as status
use Rattle.dbus_lines.specs.Lines.{AreLines, IsUnbroken}
use Rattle.dbus_lines.specs.LineReading.{GivesLine, Keeps, is_ended, most_reads_of, reads_of}
use Rattle.dbus_lines.specs.declared.fault.NoLine.{NoLine}
use Rattle.dbus_lines.specs.declared.fault.NoLine.TheVariants as fault
use Rattle.dbus_lines.specs.declared.line_reader.LineReader.{LineReader}
use Rattle.cli_encode.specs.Outcomes.{Outcome, AreOutcomes, EndsAtRefused, all_bytes, all_text, any_refused}
use Rattle.cli_encode.specs.Running.{GotFirst, GotSecond, TellsStop}
use Rattle.cli_encode.specs.declared.encoding.Encoding.{Encoding}
use Rattle.cli_encode.specs.declared.ending.Stop.{Stop}
use Rattle.cli_encode.specs.declared.ending.Stop.TheVariants.{Cause as ByCause}

abbrev pub status_of : (refused : Bool) → ExitStatus
status_of false = status.Done
status_of true = status.Refused

-- if reading was given up, no whole line is left
abbrev pub IsAllTaken : Stop → (left : List ℕ) → Type 0
IsAllTaken (ByCause ReadFailed) left = IsUnbroken left
IsAllTaken (ByCause TooManyReads) left = IsUnbroken left
IsAllTaken stop left = Unit {0}

module _ {W E : Type 0} (t : Taken) (w : Writing W) (e : Writing E) (encoding : Encoding) (most : ℕ) where
  -- what was read begins with these lines, and this became of them
  pub record Came (outcomes : List Outcome) : Type 0 where
    pub bytes : List ℕ
    pub lines : List (List ℕ)
    pub left : List ℕ
    pub ended : Bool
    pub consumed : Consumes t.left0 t.left1 bytes
    pub called : RisesAtMost most t.calls0 t.calls1
    pub at_end : ended ≡ true → IsAtEnd t.left1
    pub cut : AreLines ended bytes lines left
    pub are : AreOutcomes encoding 1 lines outcomes
    pub ends : EndsAtRefused encoding.keeps_going outcomes

  -- all lines of the input came, or all up to one that is refused
  pub record CameAll (refused : Bool) : Type 0 where
    pub outcomes : List Outcome
    pub came : Came outcomes
    pub over : ((came.left ≡ []) × (came.ended ≡ true)) ⊎ ((encoding.keeps_going ≡ false) × (refused ≡ true))
    pub refused_is : refused ≡ any_refused outcomes
    pub read_failed : t.failures1 ≡ t.failures0
    pub first : Wrote w.held w.failures w.old (all_bytes outcomes) w.new
    pub second : Wrote e.held e.failures e.old (all_text 1 outcomes) e.new

  -- the source shows why no more came
  abbrev pub IsStopOf : Stop → Type 0
  IsStopOf (ByCause ReadFailed) = t.failures1 ≡ one_more t.failures0
  IsStopOf (ByCause TooManyReads) = (t.failures1 ≡ t.failures0) × RisesBy most t.calls0 t.calls1
  IsStopOf stop = t.failures1 ≡ t.failures0

  -- some of the first lines came
  pub record CameSome (stop : Stop) : Type 0 where
    pub outcomes : List Outcome
    pub came : Came outcomes
    pub all : IsAllTaken stop came.left
    pub caused : IsStopOf stop
    pub first : GotFirst w.held w.failures stop (all_bytes outcomes) w.old w.new
    pub second : GotSecond e.held e.failures stop (all_text 1 outcomes) e.old e.new

  abbrev pub EncodesSource : Result Bool Stop → Type 0
  EncodesSource (Ok refused) = CameAll refused
  EncodesSource (Err stop) = CameSome stop

  abbrev pub EncodesAll : (refused : Bool) → Result (Unit {0}) Stop → Type 0
  EncodesAll refused (Ok x) = CameAll refused
  EncodesAll refused (Err stop) = CameSome stop

module _ {R W E : Type 0} (r : Reading R) (w : Writing W) (e : Writing E) (encoding : Encoding) (most : ℕ) where
  -- the first writer got the messages of the lines, and the second which lines are refused
  pub record Answers (end : ExitStatus) : Type 0 where
    pub refused : Bool
    pub all : CameAll (taken r) w e encoding most refused
    pub status_is : end ≡ status_of refused

  -- the first got a prefix of that, and the second then why the run is given up
  pub record GaveUp (end : ExitStatus) : Type 0 where
    pub failed : end ≡ status.Failed
    pub stop : Stop
    pub told : E
    pub some : CameSome (taken r) w (record { held = e.held; failures = e.failures; old = e.old; new = told }) encoding most stop
    pub tells : TellsStop e.held e.failures stop told e.new

-- what the command does with what r reads, by the writers w and e
abbrev pub EncodesLines : {R W E : Type 0} → Reading R → Writing W → Writing E → Encoding → ℕ → ExitStatus → Type 0
EncodesLines r w e encoding most end = Answers r w e encoding most end ⊎ GaveUp r w e encoding most end

-- ---- steps

-- why a run is given up by a fault of its reader
abbrev pub cause_of : NoLine → Cause
cause_of fault.Memory = Memory
cause_of fault.Device = ReadFailed
cause_of fault.TooManyReads = TooManyReads

-- a whole line was kept and is given, or all is kept
abbrev pub GivesKept : {R A : Type 0} → List ℕ → LineReader R A → Bool → Type 0
GivesKept w new true = GivesLine false w new
GivesKept w new false = Keeps new w

-- what comes of the next line, if w was kept and then read
abbrev pub LineAnswers : {R A : Type 0} → List ℕ → LineReader R A → Result Bool Cause → Type 0
LineAnswers w new (Ok true) = GivesLine (is_ended new) w new
LineAnswers w new (Ok false) = (w ≡ []) × Keeps new [] × (is_ended new ≡ true)
LineAnswers w new (Err ReadFailed) = Keeps new w × IsUnbroken w
LineAnswers w new (Err TooManyReads) = Keeps new w × IsUnbroken w × (reads_of new ≡ most_reads_of new)
LineAnswers w new (Err cause) = Keeps new w

-- a read failed exactly if that is the answer
abbrev pub ReadFails : (old new : ℕ) → Result Bool Cause → Type 0
ReadFails old new (Err ReadFailed) = new ≡ one_more old
ReadFails old new result = new ≡ old

-- what is gathered was written, if no line was kept
abbrev pub Settles : {W : Type 0} → (W → Option (List ℕ)) → (W → ℕ) → (g0 g1 : List ℕ) → W → W → Result Bool Cause → Type 0
Settles held failures g0 g1 old new (Ok true) = Passes held failures [] g0 g1 old new
Settles held failures g0 g1 old new (Err WriteFailed) = Breaks held failures [] g0 old new
Settles held failures g0 g1 old new result = Passes held failures [] g0 g1 old new × (g1 ≡ [])
