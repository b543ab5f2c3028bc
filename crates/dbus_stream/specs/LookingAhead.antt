-- How a reader looks ahead: what it kept and what it then reads is put elsewhere, and counts as done;
-- and then the reader stands before it. k is what is known of its taker.
use Rattle.std.specs.Prelude.{◌≡◌, ◌⊎◌, ℕ, ◌+◌, ◌<◌, ◌≤◌, List, [], ◌++◌, length, take, true, false, Option, Result, Ok, Err}
use Rattle.dbus_stream.specs.GoingOn.{IsMet}
use Rattle.dbus_stream.specs.Next.{ReadsWhile}
use Rattle.dbus_stream.specs.Reading.{source_of, part_of, done_of, last_of, reads_of, most_reads_of, is_ended, packed_of, stopped_of}
use Rattle.dbus_stream.specs.Taking.{Taking}
use Rattle.dbus_stream.specs.declared.buffer.Buffer.{Ghosts}
use Rattle.dbus_stream.specs.declared.reader.Reader.{Reader}
use Rattle.dbus_stream.specs.declared.read_fault.ReadFault.{ReadFault}
use Rattle.dbus_stream.specs.declared.read_fault.ReadFault.TheVariants.{Memory, Format, Device, TooManyReads}
use Rattle.dbus_stream.specs.declared.seeking.Behind.{Behind}

-- what is looked for first is met among the bytes
abbrev pub Meets : Behind → List ℕ → Type 0
Meets behind bytes = IsMet behind.by_size behind.limits (take behind.window bytes)

module _ {R T B A : Type 0} {b : Ghosts B} where
  -- all that was kept counts as done
  pub record DropsKept (old new : Reader R T B A b) : Type 0 where
    pub taker : new.taker ≡ old.taker
    pub held : new.held ≡ 0
    pub left : part_of new ≡ []
    pub done : done_of new ≡ done_of old + old.held + length (part_of old)
    pub stopped : stopped_of new ≡ stopped_of old

  -- these bytes, which counted as done, are what is left of the buffer
  pub record StandsBefore (bytes : List ℕ) (old new : Reader R T B A b) : Type 0 where
    pub source : source_of new ≡ source_of old
    pub reads : reads_of new ≡ reads_of old
    pub most_reads : most_reads_of new ≡ most_reads_of old
    pub ended : is_ended new ≡ is_ended old
    pub packed : packed_of new ≡ packed_of old
    pub taker : new.taker ≡ old.taker
    pub held : new.held ≡ old.held
    pub left : part_of new ≡ bytes
    pub last : last_of new ≡ length bytes
    pub done : done_of new + length bytes ≡ done_of old
    pub stopped : stopped_of new ≡ stopped_of old

module _ {R T B A G : Type 0} {b : Ghosts B} (k : Taking T G) (left : R → Option (List ℕ)) (calls : R → ℕ) (behind : Behind) (far : ℕ) (front : List ℕ) where
  -- a read only if fewer bytes are there, and none is met
  abbrev pub ReadsTo : Reader R T B A b → Reader R T B A b → Type 0
  ReadsTo old new = ReadsWhile k (λ before. (length (front ++ before) < far) × (Meets behind (front ++ before) → ⊥)) left calls old new

  -- these are the bytes that were there, and then those that were read, which count as done
  pub record HasAhead (bytes : List ℕ) (old new : Reader R T B A b) : Type 0 where
    pub reads : ReadsTo old new
    pub bytes_are : bytes ≡ front ++ reads.bytes
    pub taker : new.taker ≡ old.taker
    pub held : new.held ≡ old.held
    pub drained : part_of new ≡ []
    pub done : done_of new ≡ done_of old + length reads.bytes
    pub stopped : stopped_of new ≡ stopped_of old

-- so many are there, or the input has ended, or a message is met; or none of these, and why
module _ {R T B A : Type 0} {b : Ghosts B} (behind : Behind) (far : ℕ) (bytes : List ℕ) (new : Reader R T B A b) where
  abbrev pub IsNear : Type 0
  IsNear = (length bytes < far) × (is_ended new ≡ false) × (Meets behind bytes → ⊥)

  abbrev pub IsFar : Result (Unit {0}) ReadFault → Type 0
  IsFar (Ok x) = (far ≤ length bytes) ⊎ ((is_ended new ≡ true) ⊎ Meets behind bytes)
  IsFar (Err TooManyReads) = (reads_of new ≡ most_reads_of new) × IsNear
  IsFar (Err Memory) = IsNear
  IsFar (Err (Format fault)) = ⊥
  IsFar (Err Device) = IsNear
