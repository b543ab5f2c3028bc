-- What a reader keeps to, keeps and counts. k is what is known of its taker.
use Rattle.std.specs.Prelude.{◌≡◌, ℕ, ◌+◌, List, [], ◌++◌, length, Bool, false, slice_range, Option, None}
use Rattle.dbus_value_model.specs.declared.limits.Limits.{Limits}
use Rattle.dbus_stream.specs.declared.read_fault.ReadFault.{ReadFault}
use Rattle.dbus_stream.specs.declared.buffer.Buffer.{Ghosts}
use Rattle.dbus_stream.specs.declared.reader.Reader.{Reader}
use Rattle.dbus_stream.specs.Rooms.{put_or}
use Rattle.dbus_stream.specs.Taking.{Taking}

module _ {R T B A : Type 0} {b : Ghosts B} where
  -- the device below
  abbrev pub source_of : Reader R T B A b → R
  source_of r = r.source

  -- what takes the bytes
  abbrev pub taker_of : Reader R T B A b → T
  taker_of r = r.taker

  -- the bytes in its buffer, or those that were put in their place
  abbrev pub room_of : Reader R T B A b → List ℕ
  room_of r = put_or r.put (b.room.bytes r.buffer)

  -- what is left of them
  abbrev pub part_of : Reader R T B A b → List ℕ
  part_of r = slice_range (room_of r) r.start r.end

  -- how many bytes all the messages have that were given
  abbrev pub done_of : Reader R T B A b → ℕ
  done_of r = r.done

  -- how many bytes were read in all: those of the messages, what the taker holds, and what is left
  -- of the buffer
  abbrev pub read_of : Reader R T B A b → ℕ
  read_of r = r.done + r.held + length (part_of r)

  -- how many of them the last read gave
  abbrev pub last_of : Reader R T B A b → ℕ
  last_of r = r.end

  -- how many reads were made, and how many may be made in all
  abbrev pub reads_of : Reader R T B A b → ℕ
  reads_of r = r.reads

  abbrev pub most_reads_of : Reader R T B A b → ℕ
  most_reads_of r = r.most_reads

  -- a read gave the end
  abbrev pub is_ended : Reader R T B A b → Bool
  is_ended r = r.ended

  -- a read gave bytes of a packet
  abbrev pub packed_of : Reader R T B A b → Bool
  packed_of r = r.packed

  -- the fault that it answers for good, where it met one
  abbrev pub stopped_of : Reader R T B A b → Option ReadFault
  stopped_of r = r.stopped

  module _ {G : Type 0} (k : Taking T G) where
    -- the limits that its messages keep
    abbrev pub limits_of : Reader R T B A b → Limits
    limits_of r = k.limits r.taker

    -- w was read and not yet given: what the taker holds, and then what is left of the buffer
    pub record Keeps (r : Reader R T B A b) (w : List ℕ) : Type 0 where
      pub held : List ℕ
      pub holds : k.holds r.taker held
      pub size : r.held ≡ length held
      pub bytes : w ≡ held ++ part_of r

    -- a reader of the device, which may make so many reads in all, keeps to the limits, and read
    -- nothing yet
    pub record IsNewReader (device : R) (most : ℕ) (within : Limits) (r : Reader R T B A b) : Type 0 where
      pub source : source_of r ≡ device
      pub most_reads : most_reads_of r ≡ most
      pub limits : limits_of r ≡ within
      pub kept : Keeps r []
      pub done : done_of r ≡ 0
      pub reads : reads_of r ≡ 0
      pub last : last_of r ≡ 0
      pub ended : is_ended r ≡ false
      pub unpacked : packed_of r ≡ false
      pub stopped : stopped_of r ≡ None
