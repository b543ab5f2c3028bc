-- What is known of a visitor, which takes the messages of an input, and is told what is to be told.
-- takes says what the visitor was before messages that it took and a text that it told, and after
-- them. leaves says the same if it, or the reader, gave up after them. settled says that it holds
-- nothing back, and full whether it wants no more messages.
use Rattle.std.specs.Prelude.{◌≡◌, ℕ, Bool, false, List, [], ◌∷◌, ◌++◌, Result, Ok, Err}
use Rattle.cli_report.specs.declared.ending.Cause.{Cause}
use Rattle.cli_report.specs.declared.ending.Cause.TheVariants.{Memory, ReadFailed, WriteFailed, TooManyReads}
use Rattle.cli_report.specs.declared.gathering.Unwritten.{Unwritten}
use Rattle.cli_run.specs.Inputs.{Placed}
use Rattle.cli_run.specs.declared.visitor.RunStop.{RunStop}
use Rattle.cli_run.specs.declared.visitor.RunStop.TheVariants.{Cause as ByCause, Untold}

-- Which messages are wanted. filled says of messages whether no more are wanted after them.

-- each of these came when more were wanted. before are the messages that came before them
abbrev pub AreWanted : (filled : List Placed → Bool → Type 0) → (before messages : List Placed) → Type 0
AreWanted filled before [] = Unit {0}
AreWanted filled before (m ∷ messages) = filled before false × AreWanted filled (before ++ m ∷ []) messages

-- all are wanted
abbrev pub WantsAll : List Placed → Bool → Type 0
WantsAll messages filled = filled ≡ false

-- a visitor that took messages wants no more, or more. full says whether one wants no more
abbrev pub FillsBy : {S : Type 0} → (takes : S → S → List Placed → (told : List ℕ) → Type 0) → (full : S → Bool) → S → List Placed → Bool → Type 0
FillsBy {S} takes full a messages filled = (b : S) × (told : List ℕ) × takes a b messages told × (full b ≡ filled)

-- a run is given up by a read, or for want of one
abbrev pub IsOfReading : RunStop → Type 0
IsOfReading (ByCause ReadFailed) = Unit {0}
IsOfReading (ByCause TooManyReads) = Unit {0}
IsOfReading stop = ⊥

module _ {S : Type 0} (takes : S → S → List Placed → (told : List ℕ) → Type 0) (leaves : S → S → List Placed → (told : List ℕ) → RunStop → Type 0) where
  -- a message was taken; or for want of memory none, or a write of what it makes of it failed
  abbrev pub TakesOne : S → S → Placed → Result (Unit {0}) Cause → Type 0
  TakesOne a b m (Ok x) = takes a b (m ∷ []) []
  TakesOne a b m (Err Memory) = leaves a b [] [] (ByCause Memory)
  TakesOne a b m (Err WriteFailed) = leaves a b (m ∷ []) [] (ByCause WriteFailed)
  TakesOne a b m (Err cause) = ⊥

  -- a text was told, or a write of it failed
  abbrev pub TellsOne : S → S → List ℕ → Result (Unit {0}) Unwritten → Type 0
  TellsOne a b text (Ok x) = takes a b [] text
  TellsOne a b text (Err e) = leaves a b [] text Untold

  -- such a text was told, or a write of it failed; or for want of memory nothing was
  abbrev pub Tells : (List ℕ → Type 0) → S → S → Result (Unit {0}) RunStop → Type 0
  Tells Is a b (Ok x) = (text : List ℕ) × Is text × takes a b [] text
  Tells Is a b (Err (ByCause Memory)) = b ≡ a
  Tells Is a b (Err (ByCause cause)) = ⊥
  Tells Is a b (Err Untold) = (text : List ℕ) × Is text × leaves a b [] text Untold

  -- it let go of what it held back, or a write of that failed
  abbrev pub LetsGo : S → S → Result (Unit {0}) Unwritten → Type 0
  LetsGo a b (Ok x) = takes a b [] []
  LetsGo a b (Err e) = leaves a b [] [] (ByCause WriteFailed)

  -- this adds up
  pub record AddsUp (settled : S → Type 0) (full : S → Bool) : Type 0 where
    pub nothing : (a : S) → takes a a [] []
    -- without a message it wants what it wanted
    pub still : (a b : S) (p : List ℕ) → takes a b [] p → full b ≡ full a
    -- messages and what is told, and then more
    pub joins : (a b c : S) (s t : List Placed) (p q : List ℕ) → takes a b s p → takes b c t q → takes a c (s ++ t) (p ++ q)
    pub leaves_after : (a b c : S) (s t : List Placed) (p q : List ℕ) (stop : RunStop) → takes a b s p → leaves b c t q stop → leaves a c (s ++ t) (p ++ q) stop
    -- the reader gives up if nothing is held back
    pub rests : (a b : S) (s : List Placed) (p : List ℕ) → takes a b s p → settled b
        → leaves a b s p (ByCause Memory) × leaves a b s p (ByCause ReadFailed) × leaves a b s p (ByCause TooManyReads)
