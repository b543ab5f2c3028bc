-- What a reader knows of the packets of its input.
use Rattle.std.proofs.Common.{◌≡◌, ◌≢◌, ℕ, ◌+◌, ◌-◌, ◌<◌, ◌≤◌, Bool, is_some, List, [], ◌∷◌, Option, None, Some, length, take, refl, sym, ap, ◌∙◌, subst, arith, length-append}
use Rattle.dbus_device.specs.Packets.{Packets, PacketsAfter}
use Rattle.dbus_device.specs.declared.packet.Packet.{Packet}
use Rattle.dbus_value_model.specs.declared.fault.Fault.{Fault}
use Rattle.dbus_value_model.specs.declared.limits.Limits.{Limits}
use Rattle.dbus_header.specs.MessageOutcomes.{IsPartial}
use Rattle.dbus_validate.specs.declared.validating.Validated.{Validated}
use Rattle.dbus_stream.specs.CheckReading.{CheckReader, lengths}
use Rattle.dbus_stream.specs.Cut.{CutOutcome, Ended, Unfinished, Refused, IsOutcome}
use Rattle.dbus_stream.specs.CutEnds.{fault_at_end}
use Rattle.dbus_stream.specs.Packed.{number_of as packed_number}
use Rattle.dbus_stream.specs.Packets.{HasPackets, ShowsIn}
use Rattle.dbus_stream.specs.Packets as input
use Rattle.dbus_stream.specs.RawReading.{IsNewReader, KeepsPackets, Lends, ReadsNothing, done_of, source_of}
use Rattle.dbus_stream.specs.Reading as reading
use Rattle.dbus_stream.specs.declared.buffer.Buffer.{Ghosts}
use Rattle.dbus_stream.specs.declared.raw_reader.RawReader.{RawReader}
use Rattle.dbus_stream.specs.declared.reader.Reader.{Reader}
use Rattle.dbus_stream.proofs.FaultPackets.{ends_in, refused_in}
use Rattle.dbus_stream.proofs.PacketSteps.{of_message, still}
use Rattle.dbus_stream.proofs.RawSteps.{begins}
use Rattle.cli_report.specs.FaultFronts.{IsFaultFront}
use Rattle.cli_report.proofs.FaultFronts.{front_after}
use Rattle.cli_run.specs.Inputs.{AreInPacket, IsPacketBefore, IsTimeBefore, time_of}
use Rattle.cli_run.specs.Onward.{HasKnownPackets, HasPacketsIf}
use Rattle.cli_run.specs.Refusals.{IsRefusedIn, number_of}

-- a reader goes on with what it knows of them
pub keeps_if : {R T B A : Type 0} {b : Ghosts B} (packets : R → Option Packets) (packet : R → Option Packet) (old new : Reader R T B A b) (known : Option Packets) → input.KeepsPackets packets packet old new
    → HasPacketsIf packets packet old known → HasPacketsIf packets packet new known
keeps_if packets packet old new None keeps has = tt
keeps_if packets packet old new (Some all) keeps has = keeps all has

module _ {R A : Type 0} (packets : R → Option Packets) (packet : R → Option Packet) where
  -- a new reader begins with what its source knows of them
  pub known_first : (r : RawReader R A) (most : ℕ) (limits : Limits) → IsNewReader (source_of r) most limits r → HasKnownPackets packets packet r (packets (source_of r))
  known_first r most limits new = known_as (packets (source_of r)) refl
    where
      known_as : (known : Option Packets) → packets (source_of r) ≡ known → HasKnownPackets packets packet r known
      known_as None e = tt
      known_as (Some all) e = begins packets packet (source_of r) most limits r all new e

  -- and goes on with it
  pub known_still : (old new : RawReader R A) (known : Option Packets) → KeepsPackets packets packet old new → HasKnownPackets packets packet old known → HasKnownPackets packets packet new known
  known_still old new known keeps has = keeps_if packets packet old.reader new.reader known keeps has

  -- also if it reads nothing at first
  pub keeps_unread : (old mid new : RawReader R A) → ReadsNothing old mid → KeepsPackets packets packet mid new → KeepsPackets packets packet old new
  keeps_unread old mid new n keeps all has = keeps all (still packets packet old.reader mid.reader n.source n.read n.last n.packed all has)

  -- and whether that came in a packet
  pub lent_packet : (old from new : RawReader R A) (w : List ℕ) (j : Validated) → KeepsPackets packets packet old new → (l : Lends w j from new) → (in_packet : Bool) → in_packet ≡ is_some (packet (source_of new))
      → (known : Option Packets) → HasKnownPackets packets packet old known → IsPacketBefore known (done_of from + l.size) in_packet
  lent_packet old from new w j keeps l in_packet is None has = tt
  lent_packet old from new w j keeps l in_packet is (Some all) has =
      let last = of_message packets packet all new.reader (keeps all has) l.gives.in_last in
      let there : done_of new - 1 ≡ done_of from + l.size - 1 = omega (arith, l.gives.done) in
      is ∙ ap is_some (last ∙ ap all there)

  -- the time of the message that it lends is that of the packet of its last byte
  pub lent_time : (old from new : RawReader R A) (w : List ℕ) (j : Validated) → KeepsPackets packets packet old new → (l : Lends w j from new) → (time : Option ℕ) → time ≡ time_of (packet (source_of new))
      → (known : Option Packets) → HasKnownPackets packets packet old known → IsTimeBefore known (done_of from + l.size) time
  lent_time old from new w j keeps l time is None has = tt
  lent_time old from new w j keeps l time is (Some all) has =
      let last = of_message packets packet all new.reader (keeps all has) l.gives.in_last in
      let there : done_of new - 1 ≡ done_of from + l.size - 1 = omega (arith, l.gives.done) in
      is ∙ ap time_of (last ∙ ap all there)

-- ---- the packet of a fault

some_bytes : (w : List ℕ) → w ≢ [] → 0 < length w
some_bytes [] some = absurd (some refl)
some_bytes (x ∷ xs) some = omega arith

-- the number of a packet, as both have it
pub same_number : (p : Option Packet) → number_of p ≡ packed_number p
same_number None = refl
same_number (Some packet) = refl

-- the last byte of those that show the fault is of its packet, and so are those behind them
module _ (limits : Limits) (all : Packets) (offset : ℕ) (w front : List ℕ) (packet : Option Packet) (p : IsFaultFront limits w front) (s : ShowsIn all limits offset w packet) where
  after : s.before < length front
  after = front_after limits w front s.before p s.some s.unshown

  shown_byte : all (offset + length front - 1) ≡ packet
  shown_byte =
      let place : offset + length front - 1 ≡ offset + (length front - 1) = omega (arith, after) in
      ap all place ∙ s.in_packet (length front - 1) (omega (arith, after)) (omega (arith, after, ap length p.prefix.1, length-append front p.prefix.0))

  behind_byte : (i : ℕ) → offset + length front ≤ i → i < offset + length w → all i ≡ packet
  behind_byte i from before =
      let place : i ≡ offset + (i - offset) = omega (arith, from) in
      ap all place ∙ s.in_packet (i - offset) (omega (arith, after, from)) (omega (arith, from, before))

module _ {R T B A : Type 0} {b : Ghosts B} (packets : R → Option Packets) (packet : R → Option Packet) (limits : Limits) (r : Reader R T B A b) (w : List ℕ) (read : reading.read_of r ≡ reading.done_of r + length w)
    (shows : IsPartial limits (take (length w - reading.last_of r) w)) (fault : Fault) where
  -- the reader keeps w, which shows the fault, or the input ends there
  fault_in : (all : Packets) → HasPackets packets packet all r → (outcome : CutOutcome) → IsOutcome limits w outcome → Some fault ≡ fault_at_end w outcome → ShowsIn all limits (reading.done_of r) w (packet (reading.source_of r))
  fault_in all has Ended is e = absurd cc
  fault_in all has Unfinished is e = ends_in limits packets packet all r has w read (some_bytes w is.0) is.1
  fault_in all has (Refused other) is e = refused_in limits packets packet all r has w read other is shows

  -- if the packets are known
  pub refused_there : (known : Option Packets) → HasPacketsIf packets packet r known → (outcome : CutOutcome) → IsOutcome limits w outcome → Some fault ≡ fault_at_end w outcome
      → IsRefusedIn known limits (reading.done_of r) w (number_of (packet (reading.source_of r)))
  refused_there None has outcome is e = tt
  refused_there (Some all) has outcome is e = λ front p. ap number_of (sym (shown_byte limits all (reading.done_of r) w front (packet (reading.source_of r)) p (fault_in all has outcome is e)))

  -- and the bytes behind the fault are of its packet
  pub behind_there : (known : Option Packets) → HasPacketsIf packets packet r known → (outcome : CutOutcome) → IsOutcome limits w outcome → Some fault ≡ fault_at_end w outcome
      → (number : ℕ) → number_of (packet (reading.source_of r)) ≡ Some number → (front : List ℕ) → IsFaultFront limits w front → AreInPacket known number (reading.done_of r + length front) (reading.done_of r + length w)
  behind_there None has outcome is e number there front p = tt
  behind_there (Some all) has outcome is e number there front p = λ i from before.
      ap packed_number (behind_byte limits all (reading.done_of r) w front (packet (reading.source_of r)) p (fault_in all has outcome is e) i from before)
      ∙ (sym (same_number (packet (reading.source_of r))) ∙ there)

-- a reader that reads no message of which more is made than its length
module _ {R : Type 0} (packets : R → Option Packets) (packet : R → Option Packet) where
  pub check_begins : (r : CheckReader R) (most : ℕ) (limits : Limits) → reading.IsNewReader lengths (reading.source_of r) most limits r → HasPacketsIf packets packet r (packets (reading.source_of r))
  check_begins r most limits new = begins_as (packets (reading.source_of r)) refl
    where
      none : reading.read_of r ≡ 0
      none =
          let size = ap length new.kept.bytes in
          let both = length-append new.kept.held (reading.part_of r) in
          let held = new.kept.size in
          let done = new.done in
          omega (arith, size, both, held, done)

      begins_as : (known : Option Packets) → packets (reading.source_of r) ≡ known → HasPacketsIf packets packet r known
      begins_as None e = tt
      begins_as (Some all) e =
          let last = new.last in
          record {
            left = subst (λ (s : Option Packets). PacketsAfter (reading.read_of r) (Some all) s) (sym e) (λ i. ap all (let same : i ≡ reading.read_of r + i = omega (arith, none) in same));
            first = 0;
            told = λ i from before. absurd (omega (arith, before, none));
            last = omega (arith, last);
            some = λ some. omega (arith, some);
            unpacked = λ _ i before. absurd (omega (arith, before, none));
          }
