-- What a reader of raw messages keeps to, keeps, lends and counts.
use Rattle.std.specs.Prelude.{◌≡◌, ℕ, ◌-◌, List, [], ◌++◌, Bool, true, false, slice_range, Option, None, ◌⊎◌, ◌+◌, ◌<◌, length, take, drop, Some, Vec, Result, Ok, Err}
use Rattle.dbus_value_model.specs.declared.limits.Limits.{Limits}
use Rattle.dbus_value_model.specs.declared.order.Order.{Order}
use Rattle.dbus_message_model.specs.Messages.{MessageTree}
use Rattle.dbus_device.specs.Packets.{Packets}
use Rattle.dbus_device.specs.declared.packet.Packet.{Packet}
use Rattle.dbus_header.specs.MessageOutcomes.{IsWhole, IsRefused, IsPartial}
use Rattle.dbus_validate.specs.declared.validating.Validated.{Validated}
use Rattle.dbus_validate.specs.Validating.{IsValidatedWhole}
use Rattle.dbus_stream.specs.Gathering.{under_way, gathering}
use Rattle.dbus_stream.specs.declared.raw_reader.RawReader.{RawReader}
use Rattle.dbus_stream.specs.declared.read_fault.ReadFault.{ReadFault}
use Rattle.dbus_stream.specs.Next as next
use Rattle.dbus_stream.specs.Packets as input
use Rattle.dbus_stream.specs.Reading as reading
use Rattle.dbus_stream.specs.Rooms.{put_or}
use Rattle.dbus_stream.specs.declared.read_fault.ReadFault.TheVariants.{Memory, Format, Device, TooManyReads}

-- a whole message that was gathered, or else these bytes
abbrev pub whole_or : Bool → List ℕ → List ℕ → List ℕ
whole_or true held bytes = held
whole_or false held bytes = bytes

module _ {R A : Type 0} where
  -- the limits that its messages keep
  abbrev pub limits_of : RawReader R A → Limits
  limits_of r = r.reader.taker.limits

  -- the bytes in its buffer
  abbrev pub buffered : RawReader R A → List ℕ
  buffered r = put_or r.reader.put r.reader.buffer.bytes

  -- the bytes that were read and not yet given
  abbrev pub kept : RawReader R A → List ℕ
  kept r = under_way r.reader.taker.whole r.reader.taker.held ++ slice_range (buffered r) r.reader.start r.reader.end

  -- the bytes of the message that is lent; none, where none is
  abbrev pub lent_of : RawReader R A → List ℕ
  lent_of r = whole_or r.reader.taker.whole r.reader.taker.held (slice_range (buffered r) (r.reader.start - r.reader.taker.lent) r.reader.start)

  -- the device below
  abbrev pub source_of : RawReader R A → R
  source_of r = r.reader.source

  -- how many bytes all the messages have that were given or passed over
  abbrev pub done_of : RawReader R A → ℕ
  done_of r = r.reader.done

  -- how many bytes count as looked at to go on behind others that are no message
  abbrev pub looked_of : RawReader R A → ℕ
  looked_of r = r.looked

  -- how many bytes were read in all, and how many of them the last read gave
  abbrev pub read_of : RawReader R A → ℕ
  read_of r = reading.read_of r.reader

  abbrev pub last_of : RawReader R A → ℕ
  last_of r = reading.last_of r.reader

  -- how many reads were made, and how many may be made in all
  abbrev pub reads_of : RawReader R A → ℕ
  reads_of r = r.reader.reads

  abbrev pub most_reads_of : RawReader R A → ℕ
  most_reads_of r = r.reader.most_reads

  -- a read gave the end
  abbrev pub is_ended : RawReader R A → Bool
  is_ended r = r.reader.ended

  -- a read gave bytes of a packet
  abbrev pub packed_of : RawReader R A → Bool
  packed_of r = r.reader.packed

  -- the fault that it answers for good, where it met one
  abbrev pub stopped_of : RawReader R A → Option ReadFault
  stopped_of r = r.reader.stopped

  -- a reader of the device, which may make so many reads in all, keeps to the limits, and read
  -- nothing yet
  pub record IsNewReader (device : R) (most : ℕ) (within : Limits) (r : RawReader R A) : Type 0 where
    pub source : source_of r ≡ device
    pub most_reads : most_reads_of r ≡ most
    pub limits : limits_of r ≡ within
    pub kept : kept r ≡ []
    pub lent : lent_of r ≡ []
    pub done : done_of r ≡ 0
    pub reads : reads_of r ≡ 0
    pub last : last_of r ≡ 0
    pub looked : looked_of r ≡ 0
    pub ended : is_ended r ≡ false
    pub unpacked : packed_of r ≡ false
    pub stopped : stopped_of r ≡ None

-- What a reader of raw messages answers by its limits, where it was not stopped before. w is what
-- was kept and then what was read. D-Bus Specification, "Message Protocol".

module _ {R A : Type 0} where
  -- what a call read, and that it counted it
  abbrev pub Reads : (R → Option (List ℕ)) → (R → ℕ) → RawReader R A → RawReader R A → Type 0
  Reads left calls old new = next.Reads gathering left calls (kept old) old.reader new.reader

  -- nothing was read
  abbrev pub ReadsNothing : RawReader R A → RawReader R A → Type 0
  ReadsNothing old new = next.ReadsNothing gathering old.reader new.reader

  -- the bytes of the input are of these packets
  abbrev pub HasPackets : (R → Option Packets) → (R → Option Packet) → Packets → RawReader R A → Type 0
  HasPackets packets packet all r = input.HasPackets packets packet all r.reader

  -- and still are, whatever the packets are
  abbrev pub KeepsPackets : (R → Option Packets) → (R → Option Packet) → RawReader R A → RawReader R A → Type 0
  KeepsPackets packets packet old new = input.KeepsPackets packets packet old.reader new.reader

  -- all of w is kept, and nothing is given
  pub record KeepsAll (w : List ℕ) (old new : RawReader R A) : Type 0 where
    pub kept : kept new ≡ w
    pub done : done_of new ≡ done_of old
    pub lent : lent_of new ≡ []

  -- the message that w begins with is given, which has so many bytes, of which the last came by the
  -- last read, and what follows it is kept
  pub record Gives (w : List ℕ) (size : ℕ) (old new : RawReader R A) : Type 0 where
    pub order : Order
    pub message : MessageTree
    pub whole : IsWhole (limits_of old) w order message size
    pub kept : kept new ≡ drop size w
    pub done : done_of new ≡ done_of old + size
    pub unstopped : stopped_of new ≡ None
    pub in_last : read_of new < done_of new + last_of new

  -- it is lent, and validated
  pub record Lends (w : List ℕ) (validated : Validated) (old new : RawReader R A) : Type 0 where
    pub size : ℕ
    pub gives : Gives w size old new
    pub lent : lent_of new ≡ take size w
    pub validated_is : IsValidatedWhole (limits_of old) (lent_of new) validated

  -- these are its bytes, and none are lent
  pub record Copies (w bytes : List ℕ) (old new : RawReader R A) : Type 0 where
    pub size : ℕ
    pub gives : Gives w size old new
    pub bytes_are : bytes ≡ take size w
    pub lent : lent_of new ≡ []

  -- what was kept before the last read shows no fault
  abbrev pub ShowsLast : Limits → List ℕ → RawReader R A → Type 0
  ShowsLast limits w new = IsPartial limits (take (length w - last_of new) w)

  -- what it comes to that there is no message to give
  abbrev pub Ends : List ℕ → RawReader R A → RawReader R A → Type 0
  Ends w old new = (w ≡ []) × (is_ended new ≡ true) × KeepsAll w old new × (stopped_of new ≡ None)

  abbrev pub Fails : List ℕ → RawReader R A → RawReader R A → ReadFault → Type 0
  Fails w old new Memory = KeepsAll w old new × (stopped_of new ≡ None)
  Fails w old new (Format fault) = KeepsAll w old new × (stopped_of new ≡ Some (Format fault))
      × (IsRefused (limits_of old) w fault ⊎ (next.IsCutShort (limits_of old) w fault × (is_ended new ≡ true)))
      × ShowsLast (limits_of old) w new
  Fails w old new Device = KeepsAll w old new × (stopped_of new ≡ None) × IsPartial (limits_of old) w
  Fails w old new TooManyReads = KeepsAll w old new × (stopped_of new ≡ Some TooManyReads) × IsPartial (limits_of old) w
      × (reads_of new ≡ most_reads_of new) × (is_ended new ≡ false)

  -- of a call that lends a message
  abbrev pub Advances : List ℕ → RawReader R A → RawReader R A → Result (Option Validated) ReadFault → Type 0
  Advances w old new (Ok (Some validated)) = Lends w validated old new
  Advances w old new (Ok None) = Ends w old new
  Advances w old new (Err fault) = Fails w old new fault

  -- of a call that gives a copy
  abbrev pub CopyAnswers : List ℕ → RawReader R A → RawReader R A → Result (Option (Vec ℕ A)) ReadFault → Type 0
  CopyAnswers w old new (Ok (Some bytes)) = Copies w bytes.items old new
  CopyAnswers w old new (Ok None) = Ends w old new
  CopyAnswers w old new (Err fault) = Fails w old new fault

  -- what it answers out of what is kept alone
  abbrev pub KeptAnswers : RawReader R A → RawReader R A → Result (Option Validated) ReadFault → Type 0
  KeptAnswers old new (Ok (Some validated)) = Lends (kept old) validated old new
  KeptAnswers old new (Ok None) = KeepsAll (kept old) old new × (stopped_of new ≡ None) × IsPartial (limits_of old) (kept old)
  KeptAnswers old new (Err Memory) = KeepsAll (kept old) old new × (stopped_of new ≡ None)
  KeptAnswers old new (Err (Format fault)) = KeepsAll (kept old) old new × (stopped_of new ≡ Some (Format fault)) × IsRefused (limits_of old) (kept old) fault
      × ShowsLast (limits_of old) (kept old) new
  KeptAnswers old new _ = ⊥

  -- the message that is lent was copied, and is lent no more
  pub record HasCopied (bytes : List ℕ) (old new : RawReader R A) : Type 0 where
    pub bytes_are : bytes ≡ lent_of old
    pub kept : kept new ≡ kept old
    pub done : done_of new ≡ done_of old
    pub stopped : stopped_of new ≡ stopped_of old
    pub lent : lent_of new ≡ []

  -- it was not, and is kept again
  pub record KeepsAgain (old new : RawReader R A) : Type 0 where
    pub kept : kept new ≡ lent_of old ++ kept old
    pub done : done_of old ≡ done_of new + length (lent_of old)
    pub stopped : stopped_of new ≡ stopped_of old
    pub lent : lent_of new ≡ []

  abbrev pub GivesLent : RawReader R A → RawReader R A → Result (Option (Vec ℕ A)) ReadFault → Type 0
  GivesLent old new (Ok (Some bytes)) = HasCopied bytes.items old new
  GivesLent old new (Err Memory) = KeepsAgain old new
  GivesLent old new _ = ⊥
