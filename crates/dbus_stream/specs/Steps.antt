-- The steps of a reader: its taker is handed what is left of the buffer, and more is read.
use Rattle.std.specs.Prelude.{◌≡◌, ◌≢◌, ◌+◌, ◌≤◌, ℕ, zero, suc, List, [], ◌++◌, true, nat_eq, length, drop, Option, None, Some, Result, Ok, Err}
use Rattle.std.specs.Io.KnownBytes.{Consumes, IsAtEnd, Keeps}
use Rattle.dbus_device.specs.Device.{one_more}
use Rattle.dbus_device.specs.declared.device_fault.DeviceFault.{DeviceFault}
use Rattle.dbus_stream.specs.declared.buffer.Buffer.{Ghosts}
use Rattle.dbus_stream.specs.declared.reader.Reader.{Reader}
use Rattle.dbus_stream.specs.declared.read_fault.ReadFault.{ReadFault}
use Rattle.dbus_stream.specs.Reading.{source_of, part_of, done_of, reads_of, most_reads_of, is_ended, stopped_of}

-- so many calls of a device gave these bytes, and each of them a byte or more
abbrev pub EachGave : {R : Type 0} → (R → Option (List ℕ)) → (R → ℕ) → ℕ → R → List ℕ → R → Type 0
EachGave {R} left calls zero old bytes new = (bytes ≡ []) × (new ≡ old)
EachGave {R} left calls (suc n) old bytes new = (between : R) × (before last : List ℕ) × (bytes ≡ before ++ last) × (last ≢ [])
    × EachGave left calls n old before between × Consumes (left between) (left new) last × (calls new ≡ one_more (calls between))

module _ {R T B A : Type 0} {b : Ghosts B} where
  -- the taker and what it holds are the same, and the buffer has these bytes left
  pub record Buffers (bytes : List ℕ) (old new : Reader R T B A b) : Type 0 where
    pub taker : new.taker ≡ old.taker
    pub held : new.held ≡ old.held
    pub left : part_of new ≡ bytes

  -- where no message ends in what is kept, the taker was handed all of it
  abbrev pub TakesAll : {G : Type 0} → Reader R T B A b → Result (Option G) ReadFault → Type 0
  TakesAll new (Ok None) = (part_of new ≡ []) × (stopped_of new ≡ None)
  TakesAll new _ = Unit {0}

  -- it answers the fault for good, and nothing else is changed
  pub record Stops (fault : ReadFault) (old new : Reader R T B A b) : Type 0 where
    pub buffers : Buffers (part_of old) old new
    pub done : done_of new ≡ done_of old
    pub stopped : stopped_of new ≡ Some fault

  -- so many bytes of the buffer are passed over
  pub record Drops (count : ℕ) (old new : Reader R T B A b) : Type 0 where
    pub buffers : Buffers (drop count (part_of old)) old new
    pub done : done_of new ≡ done_of old + count
    pub stopped : stopped_of new ≡ stopped_of old

  -- one more call of the device
  pub record Calls (calls : R → ℕ) (old new : Reader R T B A b) : Type 0 where
    pub reads : reads_of new ≡ reads_of old + 1
    pub called : calls (source_of new) ≡ one_more (calls (source_of old))
    pub most_reads : most_reads_of new ≡ most_reads_of old
    pub done : done_of new ≡ done_of old
    pub stopped : stopped_of new ≡ stopped_of old

  -- what it adds to the bytes that are kept
  pub record FillsBy (left : R → Option (List ℕ)) (bytes : List ℕ) (old new : Reader R T B A b) : Type 0 where
    pub consumed : Consumes (left (source_of old)) (left (source_of new)) bytes
    pub few : length bytes ≤ b.room.size
    pub buffers : Buffers bytes old new
    pub at_end : is_ended new ≡ true → IsAtEnd (left (source_of new))

  -- where it fails, it adds nothing
  pub record FillsNone (left : R → Option (List ℕ)) (old new : Reader R T B A b) : Type 0 where
    pub source : Keeps (left (source_of old)) (left (source_of new))
    pub buffers : Buffers [] old new
    pub ended : is_ended new ≡ is_ended old

  abbrev pub Fills : (R → Option (List ℕ)) → Reader R T B A b → Reader R T B A b → Result (Unit {0}) DeviceFault → Type 0
  Fills left old new (Ok x) = (bytes : List ℕ) × FillsBy left bytes old new × (is_ended new ≡ nat_eq (length bytes) 0)
  Fills left old new (Err e) = FillsNone left old new
