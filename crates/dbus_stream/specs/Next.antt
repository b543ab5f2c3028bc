-- What a reader answers by its limits, where it was not stopped before. k is what is known of its
-- taker, and w is what was kept and then what was read. D-Bus Specification, "Message Protocol".
use Rattle.std.specs.Prelude.{◌≡◌, ◌≢◌, ◌⊎◌, ℕ, ◌+◌, ◌-◌, ◌^◌, ◌%◌, ◌<◌, ◌≤◌, List, [], ◌++◌, true, false, length, take, drop, slice_range, Option, None, Some, Result, Ok, Err}
use Rattle.std.specs.Io.KnownBytes.{Consumes, IsAtEnd}
use Rattle.dbus_value_model.specs.declared.order.Order.{Order}
use Rattle.dbus_value_model.specs.declared.fault.Fault.{Fault}
use Rattle.dbus_value_model.specs.declared.limits.Limits.{Limits}
use Rattle.dbus_message_model.specs.Messages.{MessageTree}
use Rattle.dbus_header.specs.MessageOutcomes.{IsWhole, IsRefused, IsPartial}
use Rattle.dbus_device.specs.Device.{one_more, RisesBy}
use Rattle.dbus_stream.specs.declared.buffer.Buffer.{Ghosts}
use Rattle.dbus_stream.specs.declared.reader.Reader.{Reader}
use Rattle.dbus_stream.specs.declared.read_fault.ReadFault.{ReadFault}
use Rattle.dbus_stream.specs.declared.read_fault.ReadFault.TheVariants.{Memory, Format, Device, TooManyReads}
use Rattle.dbus_stream.specs.CutEnds.{truncated}
use Rattle.dbus_stream.specs.Reading.{limits_of, source_of, room_of, part_of, done_of, read_of, last_of, reads_of, most_reads_of, is_ended, packed_of, stopped_of, Keeps}
use Rattle.dbus_stream.specs.Steps.{EachGave}
use Rattle.dbus_stream.specs.Taking.{Taking}

-- the fault of bytes after which nothing comes
abbrev pub IsCutShort : Limits → List ℕ → Fault → Type 0
IsCutShort limits w fault = (w ≢ []) × IsPartial limits w × (fault ≡ truncated w)

-- the device failed once where the answer is Device, and else not
abbrev pub DeviceCounts : {T : Type 0} → ℕ → ℕ → Result T ReadFault → Type 0
DeviceCounts old new (Err Device) = (new ≡ (old + 1) % 2 ^ 64) × (new ≢ old)
DeviceCounts old new _ = new ≡ old

module _ {R T B A G : Type 0} {b : Ghosts B} (k : Taking T G) where
  -- what a call read, and that it counted it. This holds of what it had read before its last read
  pub record ReadsWhile (Needed : List ℕ → Type 0) (left : R → Option (List ℕ)) (calls : R → ℕ) (old new : Reader R T B A b) : Type 0 where
    pub bytes : List ℕ
    pub count : ℕ
    pub consumed : Consumes (left (source_of old)) (left (source_of new)) bytes
    -- the last read gave these, at most a buffer's: one call of the device as it stood after the
    -- reads before
    pub last : List ℕ
    pub before : List ℕ
    pub joined : bytes ≡ before ++ last
    pub last_fits : length last ≤ b.room.size
    pub between : R
    pub came : Consumes (left (source_of old)) (left between) before
    -- each of these gave a byte or more
    pub each : EachGave left calls (count - 1) (source_of old) before between
    pub one_call : 0 < count → calls (source_of new) ≡ one_more (calls between)
    pub needed : 0 < count → Needed before
    pub reads : reads_of new ≡ reads_of old + count
    pub called : RisesBy count (calls (source_of old)) (calls (source_of new))
    pub most_reads : most_reads_of new ≡ most_reads_of old
    pub limits : limits_of k new ≡ limits_of k old
    -- after the end there is nothing to read
    pub settled : is_ended old ≡ true → (bytes ≡ []) × (count ≡ 0) × (is_ended new ≡ true) × (source_of new ≡ source_of old)
    -- where it ended, the device has nothing left
    pub at_end : is_ended old ≡ false → is_ended new ≡ true → IsAtEnd (left (source_of new))

  -- what a call read where w was kept, a read only where neither a whole message nor a fault was
  abbrev pub Reads : (R → Option (List ℕ)) → (R → ℕ) → List ℕ → Reader R T B A b → Reader R T B A b → Type 0
  Reads left calls w old new = ReadsWhile (λ before. IsPartial (limits_of k old) (w ++ before)) left calls old new

  -- nothing was read
  pub record ReadsNothing (old new : Reader R T B A b) : Type 0 where
    pub source : source_of new ≡ source_of old
    pub reads : reads_of new ≡ reads_of old
    pub most_reads : most_reads_of new ≡ most_reads_of old
    pub limits : limits_of k new ≡ limits_of k old
    pub ended : is_ended new ≡ is_ended old
    pub read : read_of new ≡ read_of old
    pub last : last_of new ≡ last_of old
    pub packed : packed_of new ≡ packed_of old

  -- all of w is kept, and nothing is given or lent
  pub record KeepsAll (w : List ℕ) (old new : Reader R T B A b) : Type 0 where
    pub kept : Keeps k new w
    pub done : done_of new ≡ done_of old
    pub rests : k.rests new.taker

  -- w begins with a message of so many bytes, of which the last came by the last read, and what
  -- follows it is kept
  pub record Gives (w : List ℕ) (size : ℕ) (old new : Reader R T B A b) : Type 0 where
    pub order : Order
    pub message : MessageTree
    pub whole : IsWhole (limits_of k old) w order message size
    pub kept : Keeps k new (drop size w)
    pub done : done_of new ≡ done_of old + size
    pub unstopped : stopped_of new ≡ None
    pub in_last : read_of new < done_of new + last_of new

  -- a message that is lent where it lies in the buffer stands before what is left
  abbrev pub LendsThere : List ℕ → ℕ → Reader R T B A b → Type 0
  LendsThere w size new = 0 < k.lent new.taker → (k.lent new.taker ≡ size) × (size ≤ new.start) × (slice_range (room_of new) (new.start - size) new.start ≡ take size w)

  -- this is given of it
  abbrev pub GivesOf : List ℕ → G → Reader R T B A b → Reader R T B A b → Type 0
  GivesOf w given old new = (size : ℕ) × Gives w size old new × k.gives new.taker w size given × LendsThere w size new

  -- w is at fault, and what the taker keeps of it, which shows no fault, and then what is left of
  -- the buffer, is w still
  pub record Refuses (w : List ℕ) (fault : Fault) (old new : Reader R T B A b) : Type 0 where
    pub refused : IsRefused (limits_of k old) w fault
    pub held : List ℕ
    pub unshown : IsPartial (limits_of k old) held
    pub keeps : k.keeps new.taker held
    pub size : new.held ≡ length held
    pub bytes : w ≡ held ++ part_of new

  abbrev pub NextAnswers : List ℕ → Reader R T B A b → Reader R T B A b → Result (Option G) ReadFault → Type 0
  NextAnswers w old new (Ok (Some given)) = GivesOf w given old new
  NextAnswers w old new (Ok None) = (w ≡ []) × (is_ended new ≡ true) × KeepsAll w old new × (stopped_of new ≡ None)
  NextAnswers w old new (Err Memory) = k.grows × KeepsAll w old new × (stopped_of new ≡ None)
  NextAnswers w old new (Err (Format fault)) = (done_of new ≡ done_of old) × (stopped_of new ≡ Some (Format fault))
      × (Refuses w fault old new ⊎ (IsCutShort (limits_of k old) w fault × (is_ended new ≡ true) × KeepsAll w old new))
  NextAnswers w old new (Err Device) = KeepsAll w old new × (stopped_of new ≡ None) × IsPartial (limits_of k old) w
  NextAnswers w old new (Err TooManyReads) = KeepsAll w old new × (stopped_of new ≡ Some TooManyReads) × IsPartial (limits_of k old) w
      × (reads_of new ≡ most_reads_of new) × (is_ended new ≡ false)

  -- what it answers where w is kept and nothing is read
  abbrev pub KeptAnswers : List ℕ → Reader R T B A b → Reader R T B A b → Result (Option G) ReadFault → Type 0
  KeptAnswers w old new (Ok (Some given)) = GivesOf w given old new
  KeptAnswers w old new (Ok None) = KeepsAll w old new × (stopped_of new ≡ None) × IsPartial (limits_of k old) w
  KeptAnswers w old new (Err Memory) = k.grows × KeepsAll w old new × (stopped_of new ≡ None)
  KeptAnswers w old new (Err (Format fault)) = (done_of new ≡ done_of old) × (stopped_of new ≡ Some (Format fault))
      × Refuses w fault old new
  KeptAnswers w old new _ = ⊥
