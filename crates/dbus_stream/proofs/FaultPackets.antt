-- Of which packet the byte is that shows the fault of a message.
use Rattle.std.proofs.Common.{◌≡◌, ℕ, ◌+◌, ◌-◌, ◌<◌, ◌≤◌, List, ◌++◌, Option, length, take, drop, sym, ap, ◌∙◌, subst, arith, take-append-drop, length-append, inl, inr}
use Rattle.std.proofs.lemmas.Bool.{cases_lt}
use Rattle.std.proofs.lemmas.List.{length-take, take-append-le, take-take, take_all}
use Rattle.dbus_device.specs.Packets.{Packets}
use Rattle.dbus_device.specs.declared.packet.Packet.{Packet}
use Rattle.dbus_value_model.specs.declared.fault.Fault.{Fault}
use Rattle.dbus_value_model.specs.declared.limits.Limits.{Limits}
use Rattle.dbus_header.specs.MessageOutcomes.{IsRefused, IsPartial}
use Rattle.dbus_header.proofs.OutcomeLaws.{one_outcome, refused_for_good, whole_for_good}
use Rattle.dbus_stream.specs.Gathering.{under_way}
use Rattle.dbus_stream.specs.Packets.{HasPackets, ShowsIn}
use Rattle.dbus_stream.specs.RawReading as raw
use Rattle.dbus_stream.specs.Reading.{room_of, source_of, part_of, done_of, read_of, last_of}
use Rattle.dbus_stream.specs.declared.buffer.Buffer.{Ghosts}
use Rattle.dbus_stream.specs.declared.raw_reader.RawReader.{RawReader}
use Rattle.dbus_stream.specs.declared.reader.Reader.{Reader}

module _ (limits : Limits) where
  -- so are the first of bytes that are neither a message nor refused
  partial_front : (front rest : List ℕ) → IsPartial limits (front ++ rest) → IsPartial limits front
  unfolding IsPartial
  partial_front front rest p = (λ order m n w. p.0 order m n (whole_for_good limits front rest order m n w), λ f refused. p.1 f (refused_for_good limits front rest f refused))

  pub partial_take : (n : ℕ) (w : List ℕ) → IsPartial limits w → IsPartial limits (take n w)
  partial_take n w p = partial_front (take n w) (drop n w) (subst (λ l. IsPartial limits l) (sym (take-append-drop n w)) p)

  -- bytes that are refused are not among the first ones that show no fault
  pub refused_later : (n : ℕ) (w : List ℕ) (fault : Fault) → IsPartial limits (take n w) → IsRefused limits w fault → n < length w
  refused_later n w fault unshown refused = elim (cases_lt n (length w)) [
    | inl less ↦ less
    | inr all ↦ absurd ((one_outcome limits w).2 fault refused (subst (λ l. IsPartial limits l) (take_all n w all) unshown))
  ]

  -- what is left of the buffer came by the last read
  pub shows_last : {R T B A : Type 0} {b : Ghosts B} (r : Reader R T B A b) (w held : List ℕ) → w ≡ held ++ part_of r → IsPartial limits held → IsPartial limits (take (length w - last_of r) w)
  shows_last {b = b} r w held e unshown =
      let n = length w - last_of r in
      let left = length-take (r.end - r.start) (drop r.start (room_of r)) in
      let size = ap length e ∙ length-append held (part_of r) in
      let few : n ≤ length held = omega (arith, left, size) in
      subst (λ l. IsPartial limits l) (sym (ap (take n) e ∙ take-append-le n held (part_of r) few)) (partial_take n held unshown)

  module _ {R T B A : Type 0} {b : Ghosts B} (packets : R → Option Packets) (packet : R → Option Packet) (all : Packets) (r : Reader R T B A b) (has : HasPackets packets packet all r) (w : List ℕ)
      (read : read_of r ≡ done_of r + length w) where
    -- it was refused
    pub refused_in : (fault : Fault) → IsRefused limits w fault → IsPartial limits (take (length w - last_of r) w) → ShowsIn all limits (done_of r) w (packet (source_of r))
    refused_in fault refused unshown =
        let last = has.last in
        record {
          before = length w - last_of r;
          some = refused_later (length w - last_of r) w fault unshown refused;
          unshown = unshown;
          in_packet = λ i from before. has.told (done_of r + i) (omega (arith, from, before, last, read)) (omega (arith, before, read));
        }

    -- the input ends within it
    pub ends_in : 0 < length w → IsPartial limits w → ShowsIn all limits (done_of r) w (packet (source_of r))
    ends_in some partial =
        let first = has.some (omega (arith, some, read)) in
        record {
          before = length w - 1;
          some = omega (arith, some);
          unshown = partial_take (length w - 1) w partial;
          in_packet = λ i from before. has.told (done_of r + i) (omega (arith, from, before, first, read)) (omega (arith, before, read));
        }

  -- the byte with which bytes are refused is of that packet
  pub shown_byte : (all : Packets) (offset : ℕ) (kept : List ℕ) (packet : Option Packet) (i : ℕ) (fault : Fault) → ShowsIn all limits offset kept packet → i < length kept
      → IsRefused limits (take (i + 1) kept) fault → all (offset + i) ≡ packet
  shown_byte all offset kept packet i fault s there refused = s.in_packet i from there
    where
      from : s.before ≤ i
      from = elim (cases_lt i s.before) [
        | inl early ↦ (
            let front : take (i + 1) (take s.before kept) ≡ take (i + 1) kept = take-take (i + 1) s.before kept (omega (arith, early)) in
            let unshown = subst (λ l. IsPartial limits l) front (partial_take (i + 1) (take s.before kept) s.unshown) in
            absurd ((one_outcome limits (take (i + 1) kept)).2 fault refused unshown)
            )
        | inr late ↦ late
      ]

-- a reader of raw messages read what it gave, and then what it keeps
pub raw_read : {R A : Type 0} (r : RawReader R A) → raw.read_of r ≡ raw.done_of r + length (raw.kept r)
raw_read r =
    let both = length-append (under_way r.reader.taker.whole r.reader.taker.held) (part_of r.reader) in
    let held = r.held_counted in
    omega (arith, both, held)
