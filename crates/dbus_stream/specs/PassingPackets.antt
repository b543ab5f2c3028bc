-- How a reader passes over to the next packet: what is kept is dropped, and what is read, up to the
-- first read that gives bytes of another packet. k is what is known of its taker.
use Rattle.std.specs.Prelude.{◌≡◌, ◌⊎◌, ℕ, ◌+◌, ◌<◌, ◌≤◌, List, [], length, true, false, Option, None, Some, Result, Ok, Err}
use Rattle.dbus_device.specs.Packets.{Packets}
use Rattle.dbus_device.specs.declared.packet.Packet.{Packet}
use Rattle.dbus_stream.specs.Gathering.{gathering}
use Rattle.dbus_stream.specs.Next.{ReadsWhile}
use Rattle.dbus_stream.specs.Packed.{IsOther, number_of}
use Rattle.dbus_stream.specs.RawReading as raw
use Rattle.dbus_stream.specs.Reading.{source_of, part_of, done_of, reads_of, most_reads_of, is_ended, stopped_of}
use Rattle.dbus_stream.specs.Taking.{Taking}
use Rattle.dbus_stream.specs.declared.buffer.Buffer.{Ghosts}
use Rattle.dbus_stream.specs.declared.passed.Passed.{Passed}
use Rattle.dbus_stream.specs.declared.passed.Passed.TheVariants.{Over, CutOff, Not}
use Rattle.dbus_stream.specs.declared.raw_reader.RawReader.{RawReader}
use Rattle.dbus_stream.specs.declared.reader.Reader.{Reader}
use Rattle.dbus_stream.specs.declared.read_fault.ReadFault.{ReadFault}
use Rattle.dbus_stream.specs.declared.read_fault.ReadFault.TheVariants.{Device, TooManyReads}

-- these bytes of the input are of packets of this number
abbrev pub AreOfNumber : Packets → (number from end : ℕ) → Type 0
AreOfNumber all number from end = (i : ℕ) → from ≤ i → i < end → number_of (all i) ≡ Some number

-- the next byte, at this place, is of a packet of another number, if the reader passed over to it
abbrev pub IsBeforeOther : Packets → (number place : ℕ) → Result Passed ReadFault → Type 0
IsBeforeOther all number place (Ok Over) = IsOther number (all place)
IsBeforeOther all number place result = Unit {0}

module _ {R T B A G : Type 0} {b : Ghosts B} (k : Taking T G) (left : R → Option (List ℕ)) (calls : R → ℕ) (packet : R → Option Packet) (number : ℕ) (old new : Reader R T B A b) where
  abbrev pub ReadsPast : Type 0
  ReadsPast = ReadsWhile k (λ before. Unit {0}) left calls old new

  -- all that was read counts as done
  pub record IsPastAll (r : ReadsPast) : Type 0 where
    pub taker : new.taker ≡ old.taker
    pub held : new.held ≡ old.held
    pub drained : part_of new ≡ []
    pub done : done_of new ≡ done_of old + length r.bytes
    pub stopped : stopped_of new ≡ stopped_of old

  -- all but what the last read gave, which is of another packet
  pub record IsPast (r : ReadsPast) : Type 0 where
    pub taker : new.taker ≡ old.taker
    pub held : new.held ≡ old.held
    pub some : 0 < length r.last
    pub part : part_of new ≡ r.last
    pub done : done_of new ≡ done_of old + length r.before
    pub stopped : stopped_of new ≡ None
    pub other : IsOther number (packet (source_of new))

  abbrev pub PastAnswers : ReadsPast → Result Passed ReadFault → Type 0
  PastAnswers r (Ok Over) = IsPast r
  PastAnswers r (Ok CutOff) = IsPastAll r × (is_ended new ≡ true)
  PastAnswers r (Err Device) = IsPastAll r
  PastAnswers r (Err TooManyReads) = IsPastAll r × (reads_of new ≡ most_reads_of new) × (is_ended new ≡ false)
  PastAnswers r _ = ⊥

-- ---- a reader of raw messages

module _ {R A : Type 0} (left : R → Option (List ℕ)) (calls : R → ℕ) (packet : R → Option Packet) (old new : RawReader R A) where
  -- what a call read
  abbrev pub ReadsOnward : Type 0
  ReadsOnward = ReadsPast gathering left calls packet 0 old.reader new.reader

  -- all that was kept and read is dropped, and the fault stays
  pub record DropsAll (r : ReadsOnward) : Type 0 where
    pub kept : raw.kept new ≡ []
    pub done : raw.done_of new ≡ raw.done_of old + length (raw.kept old) + length r.bytes
    pub lent : raw.lent_of new ≡ []
    pub stopped : raw.stopped_of new ≡ raw.stopped_of old

  -- all is dropped but what the last read gave, which is of another packet, and the fault is gone
  pub record GoesToPacket (number : ℕ) (r : ReadsOnward) : Type 0 where
    pub some : 0 < length r.last
    pub kept : raw.kept new ≡ r.last
    pub done : raw.done_of new ≡ raw.done_of old + length (raw.kept old) + length r.before
    pub lent : raw.lent_of new ≡ []
    pub stopped : raw.stopped_of new ≡ None
    pub other : IsOther number (packet (raw.source_of new))

  abbrev pub PacketAnswers : (number : ℕ) → ReadsOnward → Result Passed ReadFault → Type 0
  PacketAnswers number r (Ok Over) = GoesToPacket number r
  PacketAnswers number r (Ok CutOff) = DropsAll r × (raw.is_ended new ≡ true)
  PacketAnswers number r (Err Device) = DropsAll r
  PacketAnswers number r (Err TooManyReads) = DropsAll r × (raw.reads_of new ≡ raw.most_reads_of new) × (raw.is_ended new ≡ false)
  PacketAnswers number r _ = ⊥

  -- A call that passes over to the next packet; or the last read was of none, and nothing is done.
  abbrev pub PassesPacket : Result Passed ReadFault → Type 0
  PassesPacket result = ((number : ℕ) × (number_of (packet (raw.source_of old)) ≡ Some number) × (r : ReadsOnward) × PacketAnswers number r result)
      ⊎ ((packet (raw.source_of old) ≡ None) × (result ≡ Ok Not) × (new ≡ old))
