-- The steps of passing over to the next packet.
use Rattle.std.proofs.Common.{◌≡◌, ℕ, ◌+◌, ◌-◌, ◌<◌, ◌≤◌, List, [], ◌++◌, false, None, Some, Option, Result, Ok, Err, length, drop, refl, sym, ap, ◌∙◌, subst, arith, length-append, inl, inr}
use Rattle.std.specs.Prelude.{nat_eq}
use Rattle.std.proofs.Math.Seq.{drop-length}
use Rattle.std.proofs.lemmas.Bool.{cases_lt}
use Rattle.std.proofs.lemmas.List.{length-take}
use Rattle.dbus_device.specs.Packets.{Packets}
use Rattle.dbus_device.specs.declared.packet.Packet.{Packet}
use Rattle.dbus_stream.specs.Gathering.{GathererState, gathering, fresh, under_way}
use Rattle.dbus_stream.specs.Next.{ReadsNothing}
use Rattle.dbus_stream.specs.Packed.{IsOther, number_of}
use Rattle.dbus_stream.specs.Packets.{HasPackets, KeepsPackets}
use Rattle.dbus_stream.specs.PassingPackets.{AreOfNumber, DropsAll, IsBeforeOther, IsPast, IsPastAll, PacketAnswers, PastAnswers, ReadsOnward, ReadsPast}
use Rattle.dbus_stream.specs.RawReading as raw
use Rattle.dbus_stream.specs.Reading.{source_of, room_of, part_of, done_of, read_of, is_ended, stopped_of}
use Rattle.dbus_stream.specs.Steps.{Calls, Drops, EachGave, FillsBy}
use Rattle.dbus_stream.specs.Taking.{Taking}
use Rattle.dbus_stream.specs.contracts.buffer.LargeBuffer.TheImpl.{ghosts}
use Rattle.dbus_stream.specs.declared.buffer.Buffer.{Ghosts}
use Rattle.dbus_stream.specs.declared.buffer.Large.{Large}
use Rattle.dbus_stream.specs.declared.passed.Passed.{Passed}
use Rattle.dbus_stream.specs.declared.passed.Passed.TheVariants.{Over, CutOff, Not}
use Rattle.dbus_stream.specs.declared.raw_reader.RawReader.{RawReader}
use Rattle.dbus_stream.specs.declared.read_fault.ReadFault.{ReadFault}
use Rattle.dbus_stream.specs.declared.read_fault.ReadFault.TheVariants.{Memory, Format, Device, TooManyReads}
use Rattle.dbus_stream.specs.declared.reader.Reader.{Reader}
use Rattle.dbus_stream.proofs.NextSteps.{each_more, reads_from, reads_none, reads_one, reads_still}
use Rattle.dbus_stream.proofs.PassSteps.{stands}

module _ {R T B A G : Type 0} {b : Ghosts B} (k : Taking T G) (left : R → Option (List ℕ)) (calls : R → ℕ) (packets : R → Option Packets) (packet : R → Option Packet) (number : ℕ) (old : Reader R T B A b) where
  abbrev Always : List ℕ → Type 0
  Always before = Unit {0}

  -- all that was read so far is of the packet, and counts as done
  pub record HasPassed (mid : Reader R T B A b) : Type 0 where
    pub reads : ReadsPast k left calls packet number old mid
    pub past : IsPastAll k left calls packet number old mid reads
    -- each read gave a byte
    pub each : is_ended mid ≡ false → EachGave left calls reads.count (source_of old) reads.bytes (source_of mid)
    pub of_one : (all : Packets) → HasPackets packets packet all old → AreOfNumber all number (read_of old) (done_of mid)

  pub passed_none : part_of old ≡ [] → HasPassed old
  passed_none drained = record {
    reads = reads_none k Always left calls old;
    past = record { taker = refl; held = refl; drained = drained; done = omega arith; stopped = refl };
    each = λ open_. (refl, refl);
    of_one = λ all has i from before. absurd (omega (arith, from, before));
  }

  -- what is next is of another packet, if it passed over to it
  pub before_other : (all : Packets) (new : Reader R T B A b) → old.held ≡ 0 → HasPackets packets packet all new → (r : ReadsPast k left calls packet number old new) (res : Result Passed ReadFault)
      → PastAnswers k left calls packet number old new r res → IsBeforeOther all number (done_of new) res
  before_other all new none has r (Ok Over) p =
      let last = has.last in
      let held = p.held in
      let some = p.some in
      let part = ap length p.part in
      let within = length-take (new.end - new.start) (drop new.start (room_of new)) in
      let first : has.first ≤ done_of new = omega (arith, last, within, held, none) in
      let inside : done_of new < read_of new = omega (arith, some, part) in
      λ e. p.other (sym (ap number_of (has.told (done_of new) first inside)) ∙ e)
  before_other all new none has r res p = tt

  module _ (mid filled : Reader R T B A b) (h : HasPassed mid) (open_ : is_ended mid ≡ false) (c : Calls calls mid filled) (came : List ℕ) (f : FillsBy left came mid filled) where
    abbrev reads_more : ReadsPast k left calls packet number old filled
    reads_more = reads_one k Always left calls old mid filled h.reads open_ (h.each open_) tt c came f

    -- one more read, of the same packet
    pub passed_more : old.held ≡ 0 → is_ended filled ≡ nat_eq (length came) 0 → KeepsPackets packets packet old filled → (count : ℕ) → count ≡ length (part_of filled) → (0 < count → number_of (packet (source_of filled)) ≡ Some number)
        → (new : Reader R T B A b) → Drops count filled new → ReadsNothing k filled new → HasPassed new
    passed_more zero ended keeps count size same new d n =
        let part = ap length f.buffers.left in
        record {
          reads = reads_still k Always left calls old filled new reads_more n;
          past = record {
            taker = d.buffers.taker ∙ (f.buffers.taker ∙ h.past.taker);
            held = d.buffers.held ∙ (f.buffers.held ∙ h.past.held);
            drained = d.buffers.left ∙ (ap (λ (n : ℕ). drop n (part_of filled)) size ∙ drop-length (part_of filled));
            done = (let all = length-append h.reads.bytes came in omega (arith, d.done, c.done, h.past.done, size, all, part));
            stopped = d.stopped ∙ (c.stopped ∙ h.past.stopped);
          };
          each = λ more.
              let each = each_more left calls h.reads.count (source_of old) h.reads.bytes came mid filled (h.each open_) c f ended (sym n.ended ∙ more) in
              subst (EachGave left calls (h.reads.count + 1) (source_of old) (h.reads.bytes ++ came)) (sym n.source) each;
          of_one = λ all has i from before. elim (cases_lt i (done_of mid)) [
            | inl below ↦ h.of_one all has i from below
            | inr above ↦ (
                let packed = keeps all has in
                let last = packed.last in
                let held = f.buffers.held ∙ h.past.held in
                let within = length-take (filled.end - filled.start) (drop filled.start (room_of filled)) in
                let first : packed.first ≤ i = omega (arith, last, within, held, zero, c.done, above) in
                let inside : i < read_of filled = omega (arith, before, d.done, size) in
                let some : 0 < count = omega (arith, before, d.done, c.done, above) in
                ap number_of (packed.told i first inside) ∙ same some
                )
          ];
        }

    -- or one that failed
    pub passed_failed : came ≡ [] → (r : ReadsPast k left calls packet number old filled) × IsPastAll k left calls packet number old filled r
    passed_failed none = (
      reads_more,
      record {
        taker = f.buffers.taker ∙ h.past.taker;
        held = f.buffers.held ∙ h.past.held;
        drained = f.buffers.left ∙ none;
        done = (let all = length-append h.reads.bytes came in let no = ap length none in omega (arith, c.done, h.past.done, all, no));
        stopped = c.stopped ∙ h.past.stopped;
      },
    )

    -- or one of another packet
    pub passed_other : is_ended filled ≡ nat_eq (length came) 0 → 0 < length (part_of filled) → IsOther number (packet (source_of filled)) → (new : Reader R T B A b) → ReadsNothing k filled new → new.taker ≡ filled.taker → new.held ≡ filled.held
        → part_of new ≡ part_of filled → done_of new ≡ done_of filled → stopped_of new ≡ None → (r : ReadsPast k left calls packet number old new) × IsPast k left calls packet number old new r
    passed_other ended some other new n taker held part done stopped = (
      reads_still k Always left calls old filled new reads_more n,
      record {
        taker = taker ∙ (f.buffers.taker ∙ h.past.taker);
        held = held ∙ (f.buffers.held ∙ h.past.held);
        some = (let same = ap length f.buffers.left in omega (arith, some, same));
        part = part ∙ f.buffers.left;
        done = done ∙ (c.done ∙ h.past.done);
        stopped = stopped;
        other = λ e. other (ap (λ (s : R). number_of (packet s)) (sym n.source) ∙ e);
      },
    )

-- ---- a reader of raw messages, which let go of what it kept

-- what it read
abbrev pub onward_reads : {R A : Type 0} (left : R → Option (List ℕ)) (calls : R → ℕ) (packet : R → Option Packet) (number : ℕ) (old : RawReader R A) (mid new : Reader R GathererState Large A ghosts) → ReadsNothing gathering old.reader mid
    → ReadsPast gathering left calls packet number mid new → ReadsPast gathering left calls packet 0 old.reader new
onward_reads left calls packet number old mid new n r = reads_from gathering (λ before. Unit {0}) left calls (λ before. Unit {0}) old.reader mid new n (λ before x. x) r

module _ {R A : Type 0} (left : R → Option (List ℕ)) (calls : R → ℕ) (packet : R → Option Packet) (number : ℕ) (old new : RawReader R A) (mid : Reader R GathererState Large A ghosts) (n : ReadsNothing gathering old.reader mid)
    (taker : mid.taker ≡ fresh (raw.limits_of old)) (mid_done : done_of mid ≡ done_of old.reader + old.reader.held + length (part_of old.reader)) (mid_stopped : stopped_of mid ≡ stopped_of old.reader) (r : ReadsPast gathering left calls packet number mid new.reader) where
  abbrev onward : ReadsOnward left calls packet old new
  onward = onward_reads left calls packet number old mid new.reader n r

  -- so many bytes were kept
  mid_kept : done_of mid ≡ raw.done_of old + length (raw.kept old)
  mid_kept =
      let all = length-append (under_way old.reader.taker.whole old.reader.taker.held) (part_of old.reader) in
      omega (arith, mid_done, all, old.held_counted)

  drops_all : IsPastAll gathering left calls packet number mid new.reader r → DropsAll left calls packet old new onward
  drops_all p =
      let s = stands (raw.limits_of old) new (p.taker ∙ taker) in
      record { kept = s.0 ∙ p.drained; done = omega (arith, p.done, mid_kept); lent = s.1; stopped = p.stopped ∙ mid_stopped }

  pub packet_answers : (res : Result Passed ReadFault) → PastAnswers gathering left calls packet number mid new.reader r res → PacketAnswers left calls packet old new number onward res
  packet_answers (Ok Over) p =
      let s = stands (raw.limits_of old) new (p.taker ∙ taker) in
      record { some = p.some; kept = s.0 ∙ p.part; done = omega (arith, p.done, mid_kept); lent = s.1; stopped = p.stopped; other = p.other }
  packet_answers (Ok CutOff) p = (drops_all p.0, p.1)
  packet_answers (Ok Not) p = absurd p
  packet_answers (Err Memory) p = absurd p
  packet_answers (Err (Format fault)) p = absurd p
  packet_answers (Err Device) p = drops_all p
  packet_answers (Err TooManyReads) p = (drops_all p.0, p.1, p.2)
