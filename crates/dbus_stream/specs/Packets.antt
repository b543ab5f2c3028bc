-- Of which packet a message is that a reader gives: that of its last byte; and of which its fault
-- is, if it is refused. The device says of which packet each byte is.
use Rattle.std.specs.Prelude.{◌≡◌, ℕ, ◌+◌, ◌<◌, ◌≤◌, List, length, take, false, Option, None, Some}
use Rattle.dbus_device.specs.Packets.{Packets, PacketsAfter}
use Rattle.dbus_device.specs.declared.packet.Packet.{Packet}
use Rattle.dbus_value_model.specs.declared.limits.Limits.{Limits}
use Rattle.dbus_header.specs.MessageOutcomes.{IsPartial}
use Rattle.dbus_stream.specs.Reading.{source_of, read_of, last_of, packed_of}
use Rattle.dbus_stream.specs.declared.buffer.Buffer.{Ghosts}
use Rattle.dbus_stream.specs.declared.reader.Reader.{Reader}

module _ {R T B A : Type 0} {b : Ghosts B} (packets : R → Option Packets) (packet : R → Option Packet) where
  -- the bytes of the input are of these packets, from the first one on that was read
  pub record HasPackets (all : Packets) (r : Reader R T B A b) : Type 0 where
    -- those that the device has left follow the ones that were read
    pub left : PacketsAfter (read_of r) (Some all) (packets (source_of r))
    -- of those that were read, these are of the packet that the device tells: all that the last
    -- read gave, and the last byte
    pub first : ℕ
    pub told : (i : ℕ) → first ≤ i → i < read_of r → all i ≡ packet (source_of r)
    pub last : first + last_of r ≤ read_of r
    pub some : 0 < read_of r → first < read_of r
    -- none is of a packet, unless a read gave some of one
    pub unpacked : packed_of r ≡ false → (i : ℕ) → i < read_of r → all i ≡ None

  -- it is so still, whatever the packets are
  abbrev pub KeepsPackets : Reader R T B A b → Reader R T B A b → Type 0
  KeepsPackets old new = (all : Packets) → HasPackets all old → HasPackets all new

-- A message at this offset is refused, or the input ends within it, by a byte of this packet. kept
-- was read of it: the first bytes of that show no fault, and all others are of the packet.
pub record ShowsIn (all : Packets) (limits : Limits) (offset : ℕ) (kept : List ℕ) (packet : Option Packet) : Type 0 where
  pub before : ℕ
  pub some : before < length kept
  pub unshown : IsPartial limits (take before kept)
  pub in_packet : (i : ℕ) → before ≤ i → i < length kept → all (offset + i) ≡ packet
