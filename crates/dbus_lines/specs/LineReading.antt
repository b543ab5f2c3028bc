-- What a reader of lines keeps, reads and gives.
use Rattle.std.specs.Prelude.{◌≡◌, ◌⊎◌, ℕ, ◌+◌, ◌≤◌, List, [], ◌∷◌, ◌++◌, Bool, true, false, length, slice_range, Option, Result, Ok, Err}
use Rattle.std.specs.Io.KnownBytes.{Consumes, IsAtEnd}
use Rattle.std.specs.List.{All}
use Rattle.dbus_device.specs.Device.{one_more}
use Rattle.dbus_device.specs.Calls.{joined, HasByte, ReadsPieces}
use Rattle.dbus_device.specs.declared.device_fault.DeviceFault.{DeviceFault}
use Rattle.std.specs.declared.alloc.AllocError.{AllocError}
use Rattle.dbus_lines.specs.Gathering.{gathered, IsWithin}
use Rattle.dbus_lines.specs.Lines.{IsUnbroken, BeginsWithLine}
use Rattle.dbus_lines.specs.declared.fault.NoLine.{NoLine}
use Rattle.dbus_lines.specs.declared.fault.NoLine.TheVariants.{Memory, Device, TooManyReads}
use Rattle.dbus_lines.specs.declared.line_reader.LineReader.{LineReader}

-- a read failed exactly if that is the answer
abbrev pub Counts : {T : Type 0} → ℕ → ℕ → Result T NoLine → Type 0
Counts old new (Err Device) = new ≡ one_more old
Counts old new result = new ≡ old

-- No read was made but where no line ended in what was kept, w at first, and then what the reads
-- before it gave; and each of these gave a byte.
abbrev pub AreNeeded : (w : List ℕ) → (pieces : List (List ℕ)) → Type 0
AreNeeded w [] = Unit {0}
AreNeeded w (last ∷ before) = IsUnbroken (w ++ joined before) × All HasByte before

module _ {R A : Type 0} where
  abbrev pub source_of : LineReader R A → R
  source_of r = r.source

  -- what is left of the bytes that the last read gave
  abbrev pub part_of : LineReader R A → List ℕ
  part_of r = slice_range r.bytes r.start r.end

  -- the bytes of the line that it gave last, or none if these are more than a line may have
  abbrev pub line_of : LineReader R A → Option (List ℕ)
  line_of r = gathered r.line

  -- how many bytes a line may have
  abbrev pub most_of : LineReader R A → ℕ
  most_of r = r.line.most

  -- how many reads were made, and how many may be made in all
  abbrev pub reads_of : LineReader R A → ℕ
  reads_of r = r.reads

  abbrev pub most_reads_of : LineReader R A → ℕ
  most_reads_of r = r.most_reads

  -- a read gave the end
  abbrev pub is_ended : LineReader R A → Bool
  is_ended r = r.ended

  -- it gathers a line, of which these bytes came, and then has these left
  pub record Gathers (r : LineReader R A) (line left : List ℕ) : Type 0 where
    pub unbroken : IsUnbroken line
    pub gathered : IsWithin (most_of r) line (line_of r)
    pub ungiven : r.given ≡ false
    pub left_is : part_of r ≡ left

  -- w was read and not given yet: what is left, after the bytes of the line that is gathered, if
  -- the last line was given none
  abbrev pub Keeps : LineReader R A → (w : List ℕ) → Type 0
  Keeps r w = ((r.given ≡ true) × (part_of r ≡ w)) ⊎ ((line : List ℕ) × (left : List ℕ) × Gathers r line left × (w ≡ line ++ left))

  -- a reader of the device of lines of so many bytes, which may make so many reads, and read
  -- nothing yet
  pub record IsNewReader (device : R) (most_reads most : ℕ) (r : LineReader R A) : Type 0 where
    pub source : source_of r ≡ device
    pub reads_few : most_reads_of r ≡ most_reads
    pub short : most_of r ≡ most
    pub kept : Keeps r []
    pub reads : reads_of r ≡ 0
    pub ended : is_ended r ≡ false

  -- nothing was read
  pub record ReadsNothing (old new : LineReader R A) : Type 0 where
    pub source : source_of new ≡ source_of old
    pub reads : reads_of new ≡ reads_of old
    pub most_reads : most_reads_of new ≡ most_reads_of old
    pub most : most_of new ≡ most_of old
    pub ended : is_ended new ≡ is_ended old

  module _ (left : R → Option (List ℕ)) (calls : R → ℕ) (failures : R → ℕ) where
    -- What a call read where w was kept. A read gave no byte only if it failed, or found the end
    pub record Reads (w : List ℕ) (old new : LineReader R A) : Type 0 where
      pub bytes : List ℕ
      pub pieces : List (List ℕ)
      pub called : ReadsPieces left calls (source_of old) pieces (source_of new)
      pub joined_are : bytes ≡ joined pieces
      pub needed : AreNeeded w pieces
      pub found : All HasByte pieces ⊎ ((is_ended new ≡ true) ⊎ (failures (source_of new) ≡ one_more (failures (source_of old))))
      pub few : All (λ piece. length piece ≤ 65536) pieces
      pub reads : reads_of new ≡ reads_of old + length pieces
      pub most_reads : most_reads_of new ≡ most_reads_of old
      pub most : most_of new ≡ most_of old
      pub settled : is_ended old ≡ true → (pieces ≡ []) × (is_ended new ≡ true)
      -- if it ended, the device has nothing left
      pub at_end : (is_ended old ≡ true → IsAtEnd (left (source_of old))) → is_ended new ≡ true → IsAtEnd (left (source_of new))

  -- the first line of w was given
  pub record GivesLine (ended : Bool) (w : List ℕ) (new : LineReader R A) : Type 0 where
    pub line : List ℕ
    pub left : List ℕ
    pub begins : BeginsWithLine ended w line left
    pub within : IsWithin (most_of new) line (line_of new)
    pub kept : Keeps new left

  -- what it answers if w is kept and nothing is read
  abbrev pub KeptAnswers : List ℕ → LineReader R A → Result Bool AllocError → Type 0
  KeptAnswers w new (Ok true) = GivesLine false w new
  KeptAnswers w new (Ok false) = IsUnbroken w × Keeps new w
  KeptAnswers w new (Err e) = Keeps new w

  -- what it answers if w was kept and then read
  abbrev pub NextAnswers : List ℕ → LineReader R A → Result Bool NoLine → Type 0
  NextAnswers w new (Ok true) = GivesLine (is_ended new) w new
  NextAnswers w new (Ok false) = (w ≡ []) × Keeps new [] × (is_ended new ≡ true)
  NextAnswers w new (Err Memory) = Keeps new w
  NextAnswers w new (Err Device) = Keeps new w × IsUnbroken w
  NextAnswers w new (Err TooManyReads) = Keeps new w × IsUnbroken w × (reads_of new ≡ most_reads_of new) × (is_ended new ≡ false)

  -- ---- steps

  -- the buffer has these bytes left, and the line is what it was
  pub record Fills (left : R → Option (List ℕ)) (bytes : List ℕ) (old new : LineReader R A) : Type 0 where
    pub consumed : Consumes (left (source_of old)) (left (source_of new)) bytes
    pub few : length bytes ≤ 65536
    pub part : part_of new ≡ bytes
    pub line : line_of new ≡ line_of old
    pub same_given : new.given ≡ old.given
    pub at_end : is_ended new ≡ true → IsAtEnd (left (source_of new))

  abbrev pub FillsOrNot : (R → Option (List ℕ)) → LineReader R A → LineReader R A → Result (Unit {0}) DeviceFault → Type 0
  FillsOrNot left old new (Ok x) = (bytes : List ℕ) × Fills left bytes old new × (is_ended new ≡ false → HasByte bytes)
  FillsOrNot left old new (Err e) = Fills left [] old new

  -- one more read
  pub record Calls (calls : R → ℕ) (old new : LineReader R A) : Type 0 where
    pub reads : reads_of new ≡ reads_of old + 1
    pub called : calls (source_of new) ≡ one_more (calls (source_of old))
    pub most_reads : most_reads_of new ≡ most_reads_of old
    pub most : most_of new ≡ most_of old
