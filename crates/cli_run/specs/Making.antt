-- A run of what makes texts of messages, from one state to another. It takes and tells all of an
-- input, or as much as is wanted. It may write more at its end, and tell a note.
use Rattle.std.specs.Prelude.{◌≡◌, ◌≢◌, ◌⊎◌, ℕ, Bool, false, List, [], String, string_bytes, Result, Ok, Err}
use Rattle.std.specs.declared.alloc.Global.{Global}
use Rattle.dbus_device.specs.Device.{Stopped, Wrote}
use Rattle.cli_options.specs.declared.settings.Settings.{Settings}
use Rattle.cli_report.specs.Devices.{Reading, Writing, taken, writing}
use Rattle.cli_report.specs.Gathering.{Breaks, Passes}
use Rattle.cli_report.specs.Telling.{Told}
use Rattle.cli_report.specs.declared.ending.Cause.{Cause}
use Rattle.cli_report.specs.declared.ending.Cause.TheVariants.{Memory, WriteFailed}
use Rattle.cli_report.specs.declared.ending.ExitStatus.{ExitStatus}
use Rattle.cli_report.specs.declared.ending.ExitStatus.TheVariants as status
use Rattle.cli_run.specs.Going.{GivesUp, Goes, GoesThrough}
use Rattle.cli_run.specs.Inputs.{Placed}
use Rattle.cli_run.specs.Needed.{IsReadFor, ReadsToSee}
use Rattle.cli_run.specs.Told.{GotFirst, GotSecond, IsUnwritten, first_of, second_of}
use Rattle.cli_run.specs.Visiting.{WantsAll}
use Rattle.cli_run.specs.declared.visitor.RunStop.{RunStop}

-- ends says which text is made at the end of a state, and which note. It was written or gathered,
-- and this note is to be told; or a write failed, or for want of memory nothing was done. g0 and g1
-- are what is gathered before and after
module _ {S : Type 0} (ends : S → (text note : List ℕ) → Type 0) (s : S) {W : Type 0} (w : Writing W) where
  abbrev pub GathersLast : (g0 g1 : List ℕ) → Result (String Global) Cause → Type 0
  GathersLast g0 g1 (Ok note) = (text : List ℕ) × ends s text (string_bytes note) × Passes w.held w.failures text g0 g1 w.old w.new
  GathersLast g0 g1 (Err Memory) = w.new ≡ w.old
  GathersLast g0 g1 (Err WriteFailed) = (text note : List ℕ) × ends s text note × Breaks w.held w.failures text g0 w.old w.new
  GathersLast g0 g1 (Err cause) = ⊥

  -- it was written; or not
  abbrev pub WritesLast : Result (String Global) Cause → Type 0
  WritesLast (Ok note) = (text : List ℕ) × ends s text (string_bytes note) × Wrote w.held w.failures w.old text w.new
  WritesLast (Err Memory) = w.new ≡ w.old
  WritesLast (Err WriteFailed) = (text note : List ℕ) × ends s text note × Breaks w.held w.failures text [] w.old w.new
  WritesLast (Err cause) = ⊥

-- a note was told, and the run ends as was due; or the write of it failed. Of none no write is made
abbrev pub TellsNote : {E : Type 0} → Writing E → (note : List ℕ) → (due end : ExitStatus) → Type 0
TellsNote e note due end = ((Wrote e.held e.failures e.old note e.new × (note ≡ [] → e.new ≡ e.old)) × (end ≡ due))
    ⊎ (((note ≢ []) × (n : ℕ) × Stopped e.held e.failures e.old note n e.new) × (end ≡ status.Failed))

-- the note is told, if what is due at the end was written; or why not
abbrev pub EndsSo : {E : Type 0} → Writing E → (due end : ExitStatus) → Result (String Global) Cause → Type 0
EndsSo e due end (Ok note) = TellsNote e (string_bytes note) due end
EndsSo e due end (Err cause) = Told e.held e.failures e.old e.new cause × (end ≡ status.Failed)

-- makes says which text is made of messages, and to which state that leads. s is where it starts.
module _ {S : Type 0} (makes : S → List Placed → List ℕ → S → Type 0) (s : S) where
  -- whether no more messages are wanted after these. full says it of a state
  abbrev pub FillsFrom : (full : S → Bool) → List Placed → Bool → Type 0
  FillsFrom full items filled = (t : S) × (text : List ℕ) × makes s items text t × (full t ≡ filled)

  module _ {W E : Type 0} (is_check : Bool) (w : Writing W) (e : Writing E) where
    -- the text of messages was written, and this was told. Of nothing no write is made
    pub record WritesMade (items : List Placed) (told : List ℕ) : Type 0 where
      pub then : S
      pub text : List ℕ
      pub made : makes s items text then
      pub first : Wrote w.held w.failures w.old (first_of is_check text told) w.new
      pub still : first_of is_check text told ≡ [] → w.new ≡ w.old
      pub second : Wrote e.held e.failures e.old (second_of is_check told) e.new

    -- the same, as far as this stop let it come
    pub record LeavesMade (items : List Placed) (told : List ℕ) (stop : RunStop) : Type 0 where
      pub then : S
      pub text : List ℕ
      pub made : makes s items text then
      pub first : GotFirst w.held w.failures is_check stop (first_of is_check text told) w.old w.new
      pub still : first_of is_check text told ≡ [] → IsUnwritten stop × (w.new ≡ w.old)
      pub second : GotSecond e.held e.failures is_check stop (second_of is_check told) e.old e.new

  -- all was told, or as much as was wanted, and its text written; or it was given up
  abbrev pub RunsBy : {R W E : Type 0} → (full : S → Bool) → (is_check : Bool) → Reading R → Writing W → Writing E → Settings → (most : ℕ) → ExitStatus → Type 0
  RunsBy full is_check r w e settings most end =
      Goes (taken r) settings most is_check (FillsFrom full) (IsReadFor r) (WritesMade is_check w e) end
      ⊎ GivesUp (taken r) settings most is_check (FillsFrom full) e (λ before. LeavesMade is_check w (writing e.held e.failures e.old before)) end

  -- all was told, and its text written; then what is due at the end was written, or not, and the
  -- note told, or why not. due is how the run ends if nothing fails then
  pub record EndsAfterAll (ends : S → (text note : List ℕ) → Type 0) {R W E : Type 0} (r : Reading R) (w : Writing W) (e : Writing E) (settings : Settings) (most : ℕ) (end : ExitStatus) : Type 0 where
    pub due : ExitStatus
    pub middle : W
    pub before : E
    pub last : Result (String Global) Cause
    pub through : GoesThrough (taken r) settings most false WantsAll
        (λ items told. (made : WritesMade false (writing w.held w.failures w.old middle) (writing e.held e.failures e.old before) items told) × WritesLast ends made.then (writing w.held w.failures middle w.new) last) due
    pub reads : ReadsToSee settings through.fault through.through.parts through.through.rest (IsReadFor r)
    pub ends_so : EndsSo (writing e.held e.failures before e.new) due end last

  -- that, or it was given up
  abbrev pub RunsToEnd : (ends : S → (text note : List ℕ) → Type 0) → {R W E : Type 0} → Reading R → Writing W → Writing E → Settings → (most : ℕ) → ExitStatus → Type 0
  RunsToEnd ends r w e settings most end = EndsAfterAll ends r w e settings most end
      ⊎ GivesUp (taken r) settings most false WantsAll e (λ before. LeavesMade false w (writing e.held e.failures e.old before)) end
