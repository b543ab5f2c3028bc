-- How a run passes over a refused message: in a capture up to the next packet, else by the size that
-- it states, or, if that is looked for, up to where messages begin again, and by the size only if
-- that is nowhere in the window and the size is larger.
use Rattle.std.specs.Prelude.{◌≡◌, ◌⊎◌, ℕ, Bool, true, false, ◌++◌, List, Option, Some, is_some, Result, Ok, Err}
use Rattle.dbus_device.specs.Packets.{Packets}
use Rattle.dbus_device.specs.declared.packet.Packet.{Packet}
use Rattle.dbus_resync.specs.declared.found.Found.{Found}
use Rattle.dbus_resync.specs.declared.found.Found.TheVariants.{At}
use Rattle.dbus_stream.specs.GoingOn.{ReadsToGoOn, Resyncs}
use Rattle.dbus_stream.specs.Lasting.{is_truncated}
use Rattle.dbus_stream.specs.Packed.{number_of}
use Rattle.dbus_stream.specs.Passing.{Passing}
use Rattle.dbus_stream.specs.PassingPackets.{AreOfNumber, IsBeforeOther, PassesPacket}
use Rattle.dbus_stream.specs.RawReading.{HasPackets, done_of, kept, limits_of, looked_of, read_of, source_of}
use Rattle.dbus_stream.specs.declared.passed.Passed.{Passed}
use Rattle.dbus_stream.specs.declared.passed.Passed.TheVariants.{Over, Not}
use Rattle.dbus_stream.specs.declared.raw_reader.RawReader.{RawReader}
use Rattle.dbus_stream.specs.declared.read_fault.ReadFault.{ReadFault}
use Rattle.cli_options.specs.declared.resync.Resync.{Resync}
use Rattle.cli_options.specs.declared.resync.Resync.TheVariants.{Off, Within}
use Rattle.cli_report.specs.declared.telling.RefusedMessage.{RefusedMessage}
use Rattle.cli_run.specs.Inputs.{IsLarger}

-- up to the next packet; by the size that it states; or up to where messages begin again in a window
-- of so many bytes
pub data Way : Type 0 where
  ToPacket : Way
  BySize : Way
  ToNext : ℕ → Way

abbrev pub way_by : (in_packet is_cut : Bool) → Resync → Way
way_by true false resync = ToPacket
way_by true true resync = BySize
way_by false is_cut Off = BySize
way_by false is_cut (Within window) = ToNext window

-- to the next packet, if the byte by which it is refused is of one, and is not the last byte of an
-- input that ends within it; and if it is of none, to the next message, if that is asked for
abbrev pub way_of : RefusedMessage → Resync → Way
way_of refusal resync = way_by (is_some refusal.packet) (is_truncated refusal.fault.reason) resync

module _ {R A : Type 0} (left : R → Option (List ℕ)) (calls : R → ℕ) (old new : RawReader R A) where
  -- a message that states that it is larger than the window is passed over by that size, and no other
  abbrev pub PassesLarger : (window : ℕ) → Result Passed ReadFault → Type 0
  PassesLarger window result = (IsLarger (limits_of old) window (kept old) × Passing left calls old new result)
      ⊎ ((IsLarger (limits_of old) window (kept old) → ⊥) × (result ≡ Ok Not) × (new ≡ old))

  -- by what was found of where messages begin again: it was gone on there, or that is nowhere
  abbrev pub PassesBy : (window : ℕ) → Result Found ReadFault → Result Passed ReadFault → Type 0
  PassesBy window (Ok (At offset)) result = (result ≡ Ok Over) × (new ≡ old)
  PassesBy window (Ok found) result = PassesLarger window result
  PassesBy window (Err fault) result = (result ≡ Err fault) × (new ≡ old)

-- no more counts as looked at
abbrev pub KeepsLooked : {R A : Type 0} → (old new : RawReader R A) → Type 0
KeepsLooked old new = looked_of new ≡ looked_of old

module _ {R A : Type 0} (left : R → Option (List ℕ)) (calls : R → ℕ) (packet : R → Option Packet) (old new : RawReader R A) where
  -- calls that go on where messages begin again, or else by the size. mid is the reader after the
  -- first of them
  pub record Resyncing (window : ℕ) (result : Result Passed ReadFault) : Type 0 where
    pub mid : RawReader R A
    pub found : Result Found ReadFault
    pub reads : ReadsToGoOn true window left calls old mid
    pub goes : Resyncs (kept old ++ reads.bytes) old mid window found
    pub passes : PassesBy left calls mid new window found result
    pub looked : KeepsLooked mid new

  abbrev pub PassesOn : Way → Result Passed ReadFault → Type 0
  PassesOn ToPacket result = PassesPacket left calls packet old new result × KeepsLooked old new
  PassesOn BySize result = Passing left calls old new result × KeepsLooked old new
  PassesOn (ToNext window) result = Resyncing window result

-- all that is read and dropped is of the packet of the last read, and what is next is not
abbrev pub PassesInPacket : {R A : Type 0} (packets : R → Option Packets) (packet : R → Option Packet) → (old new : RawReader R A) → Result Passed ReadFault → Type 0
PassesInPacket packets packet old new result = (all : Packets) (number : ℕ) → HasPackets packets packet all old → number_of (packet (source_of old)) ≡ Some number
    → AreOfNumber all number (read_of old) (done_of new) × IsBeforeOther all number (done_of new) result
