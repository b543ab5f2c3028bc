-- The steps of looking ahead, and of going on behind a message that is refused.
use Rattle.std.proofs.Common.{◌≡◌, ℕ, ◌+◌, ◌-◌, ◌*◌, ◌<◌, ◌≤◌, List, [], ◌++◌, Bool, true, false, None, Some, Option, Result, Ok, Err, length, take, drop, min, refl, sym, ap, ◌∙◌, subst, arith, append_assoc, append-nil, length-append, inl, inr}
use Rattle.std.specs.Prelude.{nat_eq, ◌⊎◌}
use Rattle.std.specs.List.{slice_range}
use Rattle.std.proofs.Math.Seq.{drop-length, take-length}
use Rattle.std.proofs.lemmas.Bool.{cases_lt}
use Rattle.std.proofs.lemmas.List.{nil_from_length, take_min}
use Rattle.dbus_device.specs.Packets.{Packets, PacketsAfter}
use Rattle.dbus_device.specs.declared.packet.Packet.{Packet}
use Rattle.dbus_value_model.specs.declared.limits.Limits.{Limits}
use Rattle.dbus_resync.specs.Search.{Looks as LooksAt}
use Rattle.dbus_resync.specs.declared.found.Found.TheVariants.{At}
use Rattle.dbus_resync.specs.declared.found.Searched.{Searched}
use Rattle.dbus_resync.proofs.OneFound.{one_found}
use Rattle.dbus_resync.proofs.Steps.{looks_once}
use Rattle.dbus_stream.specs.Gathering.{GathererState, gathering, fresh, under_way}
use Rattle.dbus_stream.specs.GoingOn.{ahead_of, AsksForMemory, GoesBy, GoesTo, IsFoundIn, IsMet, IsReadFar, IsSettled, Looks, LooksAhead, LooksBehind, OneResumed, ReadsToGoOn, ResumesBehind, Seeks, StaysThere, WantsRead}
use Rattle.dbus_stream.specs.LookingAhead.{HasAhead, IsFar, IsNear, Meets, ReadsTo, StandsBefore}
use Rattle.dbus_stream.specs.Next.{ReadsNothing, ReadsWhile}
use Rattle.dbus_stream.specs.Packets.{KeepsPackets}
use Rattle.dbus_stream.specs.RawReading as raw
use Rattle.dbus_stream.specs.Reading.{source_of, part_of, done_of, read_of, last_of, is_ended, packed_of, stopped_of}
use Rattle.dbus_stream.specs.Steps.{Calls, Drops, EachGave, FillsBy}
use Rattle.dbus_stream.specs.Taking.{Taking}
use Rattle.dbus_stream.specs.contracts.buffer.LargeBuffer.TheImpl.{ghosts}
use Rattle.dbus_stream.specs.declared.buffer.Buffer.{Ghosts}
use Rattle.dbus_stream.specs.declared.buffer.Large.{Large}
use Rattle.dbus_stream.specs.declared.raw_reader.RawReader.{RawReader}
use Rattle.dbus_stream.specs.declared.read_fault.ReadFault.{ReadFault}
use Rattle.dbus_stream.specs.declared.read_fault.ReadFault.TheVariants.{Memory, Format, Device, TooManyReads}
use Rattle.dbus_stream.specs.declared.reader.Reader.{Reader}
use Rattle.dbus_stream.specs.declared.seeking.Behind.{Behind}
use Rattle.dbus_stream.proofs.NextSteps.{each_more, reads_from, reads_none, reads_one, reads_put, reads_still}
use Rattle.dbus_stream.proofs.PassSteps.{stands}
use Rattle.dbus_stream.proofs.SizeSteps.{size_once}

module _ {R T B A G : Type 0} {b : Ghosts B} (k : Taking T G) (left : R → Option (List ℕ)) (calls : R → ℕ) (behind : Behind) (far : ℕ) (front : List ℕ) (old : Reader R T B A b) where
  -- fewer bytes are there, and no message is met
  abbrev pub IsOpen : List ℕ → Type 0
  IsOpen bytes = (length bytes < far) × (Meets behind bytes → ⊥)

  abbrev IsShort : List ℕ → Type 0
  IsShort before = IsOpen (front ++ before)

  -- what was read so far
  pub record HasLooked (bytes : List ℕ) (mid : Reader R T B A b) : Type 0 where
    pub has : HasAhead k left calls behind far front bytes old mid
    -- each read gave a byte
    pub each : is_ended mid ≡ false → EachGave left calls has.reads.count (source_of old) has.reads.bytes (source_of mid)

  pub looked_none : part_of old ≡ [] → HasLooked front old
  looked_none drained = record {
    has = record {
      reads = reads_none k IsShort left calls old;
      bytes_are = sym (append-nil front);
      taker = refl;
      held = refl;
      drained = drained;
      done = omega arith;
      stopped = refl;
    };
    each = λ open_. (refl, refl);
  }

  module _ (bytes : List ℕ) (mid filled : Reader R T B A b) (h : HasLooked bytes mid) (short : IsOpen bytes) (open_ : is_ended mid ≡ false) (c : Calls calls mid filled) (came : List ℕ) (f : FillsBy left came mid filled) where
    abbrev reads_more : ReadsTo k left calls behind far front old filled
    reads_more = reads_one k IsShort left calls old mid filled h.has.reads open_ (h.each open_) (subst IsOpen h.has.bytes_are short) c came f

    -- one more read
    pub looked_more : is_ended filled ≡ nat_eq (length came) 0 → (count : ℕ) → count ≡ length (part_of filled) → (new : Reader R T B A b) → Drops count filled new → ReadsNothing k filled new
        → (bytes_new : List ℕ) → bytes_new ≡ bytes ++ part_of filled → HasLooked bytes_new new
    looked_more ended count size new d n bytes_new is = record {
      has = record {
        reads = reads_still k IsShort left calls old filled new reads_more n;
        bytes_are = is ∙ (λ i. h.has.bytes_are i ++ f.buffers.left i) ∙ append_assoc front h.has.reads.bytes came;
        taker = d.buffers.taker ∙ (f.buffers.taker ∙ h.has.taker);
        held = d.buffers.held ∙ (f.buffers.held ∙ h.has.held);
        drained = d.buffers.left ∙ (ap (λ (n : ℕ). drop n (part_of filled)) size ∙ drop-length (part_of filled));
        done = (let all = length-append h.has.reads.bytes came in let part = ap length f.buffers.left in omega (arith, d.done, c.done, h.has.done, size, all, part));
        stopped = d.stopped ∙ (c.stopped ∙ h.has.stopped);
      };
      each = λ more.
          let each = each_more left calls h.has.reads.count (source_of old) h.has.reads.bytes came mid filled (h.each open_) c f ended (sym n.ended ∙ more) in
          subst (EachGave left calls (h.has.reads.count + 1) (source_of old) (h.has.reads.bytes ++ came)) (sym n.source) each;
    }

    -- or one that failed
    pub looked_failed : came ≡ [] → HasAhead k left calls behind far front bytes old filled
    looked_failed none = record {
      reads = reads_more;
      bytes_are = h.has.bytes_are ∙ ap (λ (l : List ℕ). front ++ l) (sym (append-nil h.has.reads.bytes) ∙ ap (λ (l : List ℕ). h.has.reads.bytes ++ l) (sym none));
      taker = f.buffers.taker ∙ h.has.taker;
      held = f.buffers.held ∙ h.has.held;
      drained = f.buffers.left ∙ none;
      done = (let all = length-append h.has.reads.bytes came in let no = ap length none in omega (arith, c.done, h.has.done, all, no));
      stopped = c.stopped ∙ h.has.stopped;
    }

module _ {R T B A : Type 0} {b : Ghosts B} (packets : R → Option Packets) (packet : R → Option Packet) where
  -- no byte that was read is of a packet
  pub unpacked : (old new : Reader R T B A b) → source_of new ≡ source_of old → read_of new ≡ read_of old → packed_of new ≡ packed_of old → last_of new ≤ read_of new → packed_of new ≡ false → KeepsPackets packets packet old new
  unpacked old new source read packed few none all h =
      let before = sym packed ∙ none in
      record {
        left = subst (λ (s : R). PacketsAfter (read_of new) (Some all) (packets s)) (sym source) (subst (λ (n : ℕ). PacketsAfter n (Some all) (packets (source_of old))) (sym read) h.left);
        first = 0;
        told = λ i from inside.
            let some : 0 < read_of old = omega (arith, inside, read) in
            let last = h.some some in
            let told = h.told (read_of old - 1) (omega (arith, last)) (omega (arith, some)) in
            let none_last = h.unpacked before (read_of old - 1) (omega (arith, some)) in
            h.unpacked before i (omega (arith, inside, read)) ∙ (sym none_last ∙ (told ∙ ap packet (sym source)));
        last = omega (arith, few);
        some = λ some. some;
        unpacked = λ _ i inside. h.unpacked before i (omega (arith, inside, read));
      }

-- all bytes
pub whole_part : (bytes : List ℕ) (count : ℕ) → count ≡ length bytes → slice_range bytes 0 count ≡ bytes
whole_part bytes count is =
    let all : count - 0 ≡ length bytes = omega (arith, is) in
    ap (λ (n : ℕ). take n bytes) all ∙ take-length bytes

-- ---- a reader of raw messages

-- among the bytes of the window
pub found_in : (by_size : Bool) (limits : Limits) (window effort looked : ℕ) (ended : Bool) (w part : List ℕ) (found : Searched) → part ≡ w → looked ≡ min window (length part) → IsSettled by_size limits window w ⊎ (ended ≡ true)
    → Seeks by_size limits window effort (take looked part) found → IsFoundIn by_size limits window effort ended w found
found_in by_size limits window effort looked ended w part found same size enough s =
    let all : take looked part ≡ take window w = ap (λ (n : ℕ). take n part) size ∙ (take_min window part ∙ ap (take window) same) in
    (enough, subst (λ (l : List ℕ). Seeks by_size limits window effort l found) all s)

-- what is looked for first
abbrev pub sought : {R A : Type 0} → (by_size : Bool) (window : ℕ) → RawReader R A → Behind
sought by_size window old = record { by_size = by_size; limits = raw.limits_of old; window = window }

module _ {R A : Type 0} (left : R → Option (List ℕ)) (calls : R → ℕ) (by_size : Bool) (window : ℕ) (old : RawReader R A) where
  -- a read is needed
  abbrev Needs : List ℕ → Type 0
  Needs before = (length (raw.kept old) < ahead_of window) × (length (raw.kept old ++ before) < 2 * ahead_of window) × (Meets (sought by_size window old) (raw.kept old ++ before) → ⊥)

  -- what a call read
  abbrev ReadsUpTo : Reader R GathererState Large A ghosts → Type 0
  ReadsUpTo new = ReadsWhile gathering Needs left calls old.reader new

  -- what is there is enough: nothing is read
  abbrev pub there_reads : (new : Reader R GathererState Large A ghosts) → ReadsNothing gathering old.reader new → ReadsUpTo new
  there_reads new n = reads_still gathering Needs left calls old.reader old.reader new (reads_none gathering Needs left calls old.reader) n

  -- nothing is read after that
  abbrev pub goes_reads : (mid new : Reader R GathererState Large A ghosts) → ReadsUpTo mid → ReadsNothing gathering mid new → ReadsUpTo new
  goes_reads mid new r n = reads_still gathering Needs left calls old.reader mid new r n

  -- as many more are read as are wanted
  pub ahead_reads : (far : ℕ) (front : List ℕ) → front ≡ raw.kept old → far ≤ 2 * ahead_of window → (ahead_of window ≤ length front → far ≡ 0) → (mid last new : Reader R GathererState Large A ghosts) → ReadsNothing gathering old.reader mid
      → (bytes : List ℕ) → HasAhead gathering left calls (sought by_size window old) far front bytes mid last → StandsBefore bytes last new → (r : ReadsUpTo new) × (bytes ≡ raw.kept old ++ r.bytes)
  ahead_reads far front is no_wider enough mid last new n bytes h s =
      let Wanted : List ℕ → Type 0 = λ before. (length (front ++ before) < far) × (Meets (sought by_size window old) (front ++ before) → ⊥) in
      let needed : (before : List ℕ) → Wanted before → Needs before = λ before wanted.
      let front_is = ap length is in
      let all = ap (λ (l : List ℕ). length (l ++ before)) is in (
        elim (cases_lt (length front) (ahead_of window)) [
          | inl less ↦ omega (arith, less, front_is)
          | inr more ↦ absurd (let none = enough more in omega (arith, none, wanted.0))
        ],
        omega (arith, wanted.0, no_wider, all),
        subst (λ (l : List ℕ). Meets (sought by_size window old) (l ++ before) → ⊥) is wanted.1,
      ) in
      let r = reads_from gathering Needs left calls Wanted old.reader mid last n needed h.reads in (
        reads_put gathering Needs left calls bytes old.reader last new r s,
        h.bytes_are ∙ ap (λ (l : List ℕ). l ++ h.reads.bytes) is,
      )

module _ {R A : Type 0} where
  -- what nothing was read for
  pub unread_both : (old mid new : Reader R GathererState Large A ghosts) → ReadsNothing gathering old mid → ReadsNothing gathering mid new → ReadsNothing gathering old new
  unread_both old mid new m n = record {
    source = n.source ∙ m.source;
    reads = n.reads ∙ m.reads;
    most_reads = n.most_reads ∙ m.most_reads;
    limits = n.limits ∙ m.limits;
    ended = n.ended ∙ m.ended;
    read = n.read ∙ m.read;
    last = n.last ∙ m.last;
    packed = n.packed ∙ m.packed;
  }

  module _ (w : List ℕ) (old new : RawReader R A) where
    -- all is in the buffer
    pub stays_put : part_of new.reader ≡ w → new.reader.taker ≡ fresh (raw.limits_of old) → raw.done_of new ≡ raw.done_of old → raw.stopped_of new ≡ raw.stopped_of old → StaysThere w old new
    stays_put part taker done stopped =
        let s = stands (raw.limits_of old) new taker in
        record { kept = s.0 ∙ part; done = done; lent = λ _. s.1; stopped = stopped }

    pub stays_ahead : (by_size : Bool) (window : ℕ) → LooksAhead w old new by_size window → StaysThere w old new
    stays_ahead by_size window l = stays_put l.part l.taker l.done l.stopped

    -- an error leaves all there
    pub fails_ahead : (by_size : Bool) (window : ℕ) (fault : ReadFault) → Looks w old new by_size window (Err fault) → GoesBy w old new by_size window (Err fault)
    fails_ahead by_size window Memory l = l
    fails_ahead by_size window (Format fault) l = absurd l
    fails_ahead by_size window Device l = l
    fails_ahead by_size window TooManyReads l = l

  -- nothing more is read
  pub looks_there : (by_size : Bool) (window : ℕ) (old new : RawReader R A) → old.reader.held ≡ 0 → IsSettled by_size (raw.limits_of old) window (part_of old.reader) ⊎ (raw.is_ended old ≡ true) → part_of new.reader ≡ part_of old.reader → new.reader.taker ≡ fresh (raw.limits_of old)
      → raw.done_of new ≡ raw.done_of old → raw.stopped_of new ≡ raw.stopped_of old → raw.is_ended new ≡ raw.is_ended old → raw.reads_of new ≡ raw.reads_of old → new.refused.dropped ≡ 0 → LooksAhead (raw.kept old ++ []) old new by_size window
  looks_there by_size window old new zero enough part taker done stopped ended reads nothing =
      let held = under_way old.reader.taker.whole old.reader.taker.held in
      let none : held ≡ [] = nil_from_length held (sym old.held_counted ∙ zero) in
      let all : raw.kept old ++ [] ≡ part_of old.reader = append-nil (raw.kept old) ∙ ap (λ (l : List ℕ). l ++ part_of old.reader) none in
      record {
        part = part ∙ sym all;
        taker = taker;
        done = done;
        stopped = stopped;
        nothing = nothing;
        enough = elim enough [
          | inl settled ↦ inl (subst (IsSettled by_size (raw.limits_of old) window) (sym all) settled)
          | inr end ↦ inr (ended ∙ end)
        ];
        far = inl reads;
      }

  -- what is kept was not put into one place
  pub asks_first : (by_size : Bool) (window : ℕ) (old : RawReader R A) → (length (part_of old.reader) < length (raw.kept old)) ⊎ ((length (raw.kept old) < ahead_of window) × (raw.is_ended old ≡ false) × (Meets (sought by_size window old) (raw.kept old) → ⊥))
      → AsksForMemory (raw.kept old ++ []) old old by_size window
  asks_first by_size window old (inl apart) = inl (apart, append-nil (raw.kept old))
  asks_first by_size window old (inr more) =
      let same = append-nil (raw.kept old) in
      let all = ap length same in
      inr (more.0, omega (arith, all, more.0), more.1, subst (λ (l : List ℕ). Meets (sought by_size window old) l → ⊥) (sym same) more.2)

  -- more was read, or not
  module _ (left : R → Option (List ℕ)) (calls : R → ℕ) (by_size : Bool) (window far : ℕ) (old new : RawReader R A) (front bytes : List ℕ) (is : front ≡ raw.kept old) (twice : length front < ahead_of window → far ≡ 2 * ahead_of window) (none : ahead_of window ≤ length front → far ≡ 0) (mid last : Reader R GathererState Large A ghosts)
      (taker : mid.taker ≡ fresh (raw.limits_of old)) (mid_done : done_of mid ≡ done_of old.reader + old.reader.held + length (part_of old.reader)) (mid_stopped : stopped_of mid ≡ stopped_of old.reader)
      (h : HasAhead gathering left calls (sought by_size window old) far front bytes mid last) where
    -- no more bytes are put back than counted as done
    pub counted_ahead : length bytes ≤ done_of last
    counted_ahead =
        let held = under_way old.reader.taker.whole old.reader.taker.held in
        let all = ap length (h.bytes_are ∙ ap (λ (l : List ℕ). l ++ h.reads.bytes) is) in
        let both = length-append (raw.kept old) h.reads.bytes in
        let kept = length-append held (part_of old.reader) in
        omega (arith, all, both, kept, old.held_counted, mid_done, h.done)

    module _ (s : StandsBefore bytes last new.reader) (nothing : new.refused.dropped ≡ 0) (r : ReadsUpTo left calls by_size window old new.reader) (w : List ℕ) (w_is : bytes ≡ w) where
      ahead_done : raw.done_of new ≡ raw.done_of old
      ahead_done =
          let held = under_way old.reader.taker.whole old.reader.taker.held in
          let all = ap length (h.bytes_are ∙ ap (λ (l : List ℕ). l ++ h.reads.bytes) is) in
          let both = length-append (raw.kept old) h.reads.bytes in
          let kept = length-append held (part_of old.reader) in
          omega (arith, all, both, kept, old.held_counted, mid_done, h.done, s.done)

      ahead_taker : new.reader.taker ≡ fresh (raw.limits_of old)
      ahead_taker = s.taker ∙ (h.taker ∙ taker)

      ahead_stays : StaysThere w old new
      ahead_stays = stays_put w old new (s.left ∙ w_is) ahead_taker ahead_done (s.stopped ∙ (h.stopped ∙ mid_stopped))

      -- so many are there
      ahead_wide : far ≤ length bytes → ahead_of window ≤ length w
      ahead_wide there =
          let size = ap length w_is in
          let all = ap length h.bytes_are in
          let both = length-append front h.reads.bytes in
          elim (cases_lt (length front) (ahead_of window)) [
            | inl less ↦ (let more = twice less in omega (arith, more, there, size))
            | inr more ↦ omega (arith, more, all, both, size)
          ]

      is_met : Meets (sought by_size window old) bytes → Meets (sought by_size window old) w
      is_met met = subst (Meets (sought by_size window old)) w_is met

      -- nothing was read, if so many were there
      ahead_unread : ahead_of window ≤ length front → raw.reads_of new ≡ raw.reads_of old
      ahead_unread there =
          let size = ap length is in
          elim (cases_lt 0 r.count) [
            | inl some ↦ absurd (let less = (r.needed some).0 in omega (arith, less, there, size))
            | inr zero ↦ (let reads = r.reads in omega (arith, reads, zero))
          ]

      ahead_far : IsFar (sought by_size window old) far bytes last (Ok tt) → IsReadFar w old new by_size window
      ahead_far far_enough = elim (cases_lt (length front) (ahead_of window)) [
        | inl less ↦ inr (elim far_enough [
          | inl there ↦ inl (let size = ap length w_is in let wide = twice less in omega (arith, size, wide, there))
          | inr (inl end) ↦ inr (inl (s.ended ∙ end))
          | inr (inr met) ↦ inr (inr (is_met met))
        ])
        | inr there ↦ inl (ahead_unread there)
      ]

      -- it was to be more
      ahead_wants : IsNear (sought by_size window old) far bytes last → WantsRead w old new by_size window
      ahead_wants near =
          let size = ap length w_is in
          let front_size = ap length is in
          elim (cases_lt (length front) (ahead_of window)) [
            | inl less ↦ (omega (arith, less, front_size), (let wide = twice less in omega (arith, size, wide, near.0)), s.ended ∙ near.1, subst (λ (l : List ℕ). Meets (sought by_size window old) l → ⊥) w_is near.2)
            | inr there ↦ absurd (let zero = none there in omega (arith, zero, near.0))
          ]

      pub ahead_looks : (res : Result (Unit {0}) ReadFault) → IsFar (sought by_size window old) far bytes last res → Looks w old new by_size window res
      ahead_looks (Ok x) far_enough = record {
        part = s.left ∙ w_is;
        taker = ahead_taker;
        done = ahead_done;
        stopped = s.stopped ∙ (h.stopped ∙ mid_stopped);
        nothing = nothing;
        enough = elim far_enough [ inl there ↦ inl (inl (ahead_wide there)) | inr (inl end) ↦ inr (s.ended ∙ end) | inr (inr met) ↦ inl (inr (is_met met)) ];
        far = ahead_far far_enough;
      }
      ahead_looks (Err Memory) near = (ahead_stays, inr (ahead_wants near))
      ahead_looks (Err (Format fault)) far_enough = absurd far_enough
      ahead_looks (Err Device) near = (ahead_stays, ahead_wants near)
      ahead_looks (Err TooManyReads) near = (ahead_stays, s.reads ∙ (near.0 ∙ sym s.most_reads), ahead_wants near.1)

  -- the reader goes to the next message
  pub goes_to : (by_size : Bool) (window offset : ℕ) (w : List ℕ) (old mid new : RawReader R A) → LooksAhead w old mid by_size window → offset ≤ length w → part_of new.reader ≡ drop offset (part_of mid.reader) → new.reader.taker ≡ mid.reader.taker
      → raw.done_of new ≡ raw.done_of mid + offset → raw.stopped_of new ≡ None → GoesTo w old new offset
  goes_to by_size window offset w old mid new l inside part taker done stopped =
      let s = stands (raw.limits_of old) new (taker ∙ l.taker) in
      record {
        inside = inside;
        kept = s.0 ∙ (part ∙ ap (drop offset) l.part);
        done = done ∙ ap (λ (n : ℕ). n + offset) l.done;
        lent = s.1;
        stopped = stopped;
      }

-- ---- one place

-- as many are looked at first
one_behind : (limits : Limits) (bytes : List ℕ) (n k : ℕ) → LooksBehind limits bytes n → LooksBehind limits bytes k → n ≡ k
one_behind limits bytes n k (inl a) (inl b) =
    let same = size_once limits bytes b.0 a.0 b.1 a.1 in
    looks_once limits (drop a.0 bytes) n k a.3 (subst (λ (m : ℕ). LooksAt limits (drop m bytes) k) (sym same) b.3)
one_behind limits bytes n k (inl a) (inr b) = absurd (let past = b.0 a.0 a.1 in omega (arith, past, a.2))
one_behind limits bytes n k (inr a) (inl b) = absurd (let past = a.0 b.0 b.1 in omega (arith, past, b.2))
one_behind limits bytes n k (inr a) (inr b) = a.1 ∙ sym b.1

module _ (limits : Limits) (window effort behind : ℕ) (bytes : List ℕ) (s t : Searched) where
  one_after : ResumesBehind limits window effort behind bytes s → ResumesBehind limits window effort behind bytes t → s ≡ t
  one_after (inl a) (inl b) = a.1 ∙ sym b.1
  one_after (inl a) (inr b) = absurd (omega (arith, a.0, b.0))
  one_after (inr a) (inl b) = absurd (omega (arith, a.0, b.0))
  one_after (inr a) (inr b) = elim a.1 [
    | inl led ↦ elim b.1 [
      | inl too ↦ led.2 ∙ (ap (λ (n : ℕ). record { found = At n; looked = behind }) (size_once limits bytes too.0 led.0 too.1.states led.1.states) ∙ sym too.2)
      | inr first ↦ absurd (first.0 led.0 led.1)
    ]
    | inr first ↦ elim b.1 [
      | inl led ↦ absurd (first.0 led.0 led.1)
      | inr too ↦ first.3 ∙ (ap (λ (f : Searched). record { found = f.found; looked = behind + f.looked }) (one_found limits bytes (effort - behind) first.1 too.1 first.2 too.2) ∙ sym too.3)
    ]
  ]

pub one_resumed : OneResumed
one_resumed limits window effort bytes s t a b =
    let same = one_behind limits bytes b.0 a.0 b.1 a.1 in
    one_after limits window effort a.0 bytes s t a.2 (subst (λ (n : ℕ). ResumesBehind limits window effort n bytes t) same b.2)
