-- The steps of passing over a refused message.
use Rattle.std.proofs.Common.{◌≡◌, ℕ, ◌+◌, ◌-◌, ◌^◌, ◌<◌, ◌≤◌, List, [], ◌++◌, Bool, true, false, not, None, Some, Option, Result, Ok, Err, length, drop, refl, sym, ap, ◌∙◌, subst, arith, append_assoc, append-nil, length-append, inl, inr}
use Rattle.std.specs.Prelude.{nat_eq}
use Rattle.std.specs.List.{slice_range}
use Rattle.std.proofs.Math.Seq.{drop-append-add, drop-length}
use Rattle.std.proofs.lemmas.Bool.{cases_lt, false≢true}
use Rattle.std.proofs.lemmas.List.{nil_from_length}
use Rattle.dbus_value_model.specs.declared.fault.Fault.{Fault}
use Rattle.dbus_value_model.specs.declared.limits.Limits.{Limits}
use Rattle.dbus_stream.specs.declared.buffer.Buffer.{Ghosts}
use Rattle.dbus_stream.specs.declared.buffer.Large.{Large}
use Rattle.dbus_stream.specs.declared.passed.Passed.{Passed}
use Rattle.dbus_stream.specs.declared.passed.Passed.TheVariants.{Over, CutOff, Not}
use Rattle.dbus_stream.specs.declared.reader.Reader.{Reader}
use Rattle.dbus_stream.specs.declared.refused.Refused.{Refused}
use Rattle.dbus_stream.specs.contracts.buffer.LargeBuffer.TheImpl.{ghosts}
use Rattle.dbus_stream.specs.declared.raw_reader.RawReader.{RawReader}
use Rattle.dbus_stream.specs.declared.read_fault.ReadFault.{ReadFault}
use Rattle.dbus_stream.specs.declared.read_fault.ReadFault.TheVariants.{Memory, Format, Device, TooManyReads}
use Rattle.dbus_stream.specs.Dropping.{AreInside, HasDropped}
use Rattle.dbus_stream.specs.Gathering.{GathererState, gathering, fresh, under_way}
use Rattle.dbus_stream.specs.Lasting.{is_truncated, is_refusal}
use Rattle.dbus_stream.specs.Next.{ReadsNothing}
use Rattle.dbus_stream.specs.Passing.{DropsAll, IsRefusal, PassAnswers, ReadsOn, ReadsToSkip, SkipAnswers, Skips, SkipsAll, WasDropped}
use Rattle.dbus_stream.specs.RawReading.{buffered, limits_of, kept, lent_of, whole_or}
use Rattle.dbus_stream.specs.Reading.{source_of, part_of, done_of, is_ended, stopped_of}
use Rattle.dbus_stream.specs.StatedSizes.{StatesNone, StatesSize, WantsMore}
use Rattle.dbus_stream.specs.Steps.{Drops, Calls, EachGave, FillsBy}
use Rattle.dbus_stream.specs.Taking.{Taking}
use Rattle.dbus_stream.proofs.CutLaws.{no_part, part_size}
use Rattle.dbus_stream.proofs.NextSteps.{each_more, reads_none, reads_still, reads_from, reads_one}
use Rattle.dbus_stream.proofs.SizeSteps.{inside_none, inside_same, inside_wanting}

module _ {R T B A G : Type 0} {b : Ghosts B} (k : Taking T G) (limits : Limits) (gone : List ℕ) (left : R → Option (List ℕ)) (calls : R → ℕ) (old : Reader R T B A b) where
  -- more bytes of the message are wanted than were there and were read before
  abbrev Short : List ℕ → Type 0
  Short before = WantsMore limits ((gone ++ part_of old) ++ before)

  -- what a step before did
  pub record Since (mid : Reader R T B A b) : Type 0 where
    pub reads : ReadsToSkip k limits (gone ++ part_of old) left calls old mid
    pub taker : mid.taker ≡ old.taker
    pub held : mid.held ≡ 0
    pub stopped : stopped_of mid ≡ stopped_of old
    -- each read gave a byte
    pub each : is_ended mid ≡ false → EachGave left calls reads.count (source_of old) reads.bytes (source_of mid)

  -- the message's bytes as far as they came
  abbrev pub bytes_of : (mid : Reader R T B A b) → Since mid → List ℕ
  bytes_of mid s = gone ++ (part_of old ++ s.reads.bytes)

  -- these bytes more are passed over, and what is left of the buffer follows them
  pub record HasSkipped (mid : Reader R T B A b) (now : Refused) : Type 0 where
    pub since : Since mid
    pub more : List ℕ
    pub all : (gone ++ more) ++ part_of mid ≡ bytes_of mid since
    pub dropped : HasDropped now (gone ++ more)
    pub inside : AreInside limits (gone ++ more)
    pub done : done_of mid + length gone ≡ done_of old + old.held + length (gone ++ more)

  -- all are
  pub record HasSkippedAll (mid : Reader R T B A b) (now : Refused) : Type 0 where
    pub since : Since mid
    pub skips : SkipsAll limits gone (bytes_of mid since) old mid now

  -- only what the taker held is passed over
  pub skip_held : (mid : Reader R T B A b) (now : Refused) → HasDropped now gone → AreInside limits gone → ReadsNothing k old mid → part_of mid ≡ part_of old → done_of mid ≡ done_of old + old.held
      → mid.taker ≡ old.taker → mid.held ≡ 0 → stopped_of mid ≡ stopped_of old → HasSkipped mid now
  skip_held mid now before inside n part done taker held stopped = record {
    since = record { reads = reads_still k Short left calls old old mid (reads_none k Short left calls old) n; taker = taker; held = held; stopped = stopped; each = λ open_. subst (EachGave left calls 0 (source_of old) []) (sym n.source) (refl, refl) };
    more = [];
    all = ap (λ (l : List ℕ). l ++ part_of mid) (append-nil gone) ∙ (ap (λ (l : List ℕ). gone ++ l) part ∙ ap (λ (l : List ℕ). gone ++ l) (sym (append-nil (part_of old))));
    dropped = subst (HasDropped now) (sym (append-nil gone)) before;
    inside = subst (AreInside limits) (sym (append-nil gone)) inside;
    done = let same = ap length (append-nil gone) in omega (arith, done, same);
  }

  module _ (mid new : Reader R T B A b) (now : Refused) (h : HasSkipped mid now) where
    abbrev since_still : ReadsNothing k mid new → new.taker ≡ mid.taker → new.held ≡ mid.held → stopped_of new ≡ stopped_of mid → Since new
    since_still u taker held stopped =
        let s = h.since in
        record { reads = reads_still k Short left calls old mid new s.reads u; taker = taker ∙ s.taker; held = held ∙ s.held; stopped = stopped ∙ s.stopped; each = λ open_. subst (EachGave left calls s.reads.count (source_of old) s.reads.bytes) (sym u.source) (s.each (sym u.ended ∙ open_)) }

    -- what is left of the buffer is dropped too
    pub skip_rest : (there : Refused) → HasDropped there ((gone ++ h.more) ++ part_of mid) → Drops (length (part_of mid)) mid new → ReadsNothing k mid new
        → (a : HasSkippedAll new there) × ((gone ++ h.more) ++ part_of mid ≡ bytes_of new a.since)
    skip_rest there has d u =
        let size = ap length h.all in
        let both = length-append (gone ++ h.more) (part_of mid) in
        let done = d.done in
        let before = h.done in (
          record {
            since = since_still u d.buffers.taker d.buffers.held d.stopped;
            skips = record {
              left = d.buffers.left ∙ drop-length (part_of mid);
              done = omega (arith, done, before, size, both);
              stopped = d.stopped ∙ h.since.stopped;
              dropped = subst (HasDropped there) h.all has;
            };
          },
          h.all,
        )

    -- the message is passed over
    pub skip_size : (size : ℕ) → StatesSize limits ((gone ++ h.more) ++ part_of mid) size → size ≤ length ((gone ++ h.more) ++ part_of mid) → length (gone ++ h.more) ≤ size
        → (last : Reader R T B A b) → Drops (size - length (gone ++ h.more)) mid new → ReadsNothing k mid new → ReadsNothing k new last → part_of last ≡ part_of new → done_of last ≡ done_of new → stopped_of last ≡ None
        → (after : Refused) → after.dropped ≡ 0 → (r : ReadsToSkip k limits (gone ++ part_of old) left calls old last) × Skips limits gone (gone ++ (part_of old ++ r.bytes)) old last after
    skip_size size states there inside last d u v part done stopped after nothing =
        let front = gone ++ h.more in
        let over : length front + (size - length front) ≡ size = omega (arith, inside) in
        let before = h.done in
        let step = d.done in (
          reads_still k Short left calls old new last (reads_still k Short left calls old mid new h.since.reads u) v,
          record {
            size = size;
            states = subst (λ (l : List ℕ). StatesSize limits l size) h.all states;
            there = subst (λ (l : List ℕ). size ≤ length l) h.all there;
            left = part ∙ (d.buffers.left ∙ (sym (drop-append-add front (part_of mid) (size - length front)) ∙ (ap (λ (n : ℕ). drop n (front ++ part_of mid)) over ∙ ap (drop size) h.all)));
            done = omega (arith, done, step, before, inside);
            stopped = stopped;
            nothing = nothing;
          },
        )

  module _ (mid : Reader R T B A b) (now : Refused) (h : HasSkippedAll mid now) (wants : WantsMore limits (bytes_of mid h.since)) (new : Reader R T B A b) (bytes : List ℕ) (open_ : is_ended mid ≡ false)
      (c : Calls calls mid new) (f : FillsBy left bytes mid new) where
    more_wanted : Short h.since.reads.bytes
    more_wanted = subst (WantsMore limits) (sym (append_assoc gone (part_of old) h.since.reads.bytes)) wants

    abbrev reads_more : ReadsToSkip k limits (gone ++ part_of old) left calls old new
    reads_more = reads_one k Short left calls old mid new h.since.reads open_ (h.since.each open_) more_wanted c bytes f

    -- one more read, which gave bytes, or the end
    pub skip_read : is_ended new ≡ nat_eq (length bytes) 0 → HasSkipped new now
    skip_read ended =
        let s = h.since in
        let done = h.skips.done in
        let step = c.done in
        record {
          since = record {
            reads = reads_more;
            taker = f.buffers.taker ∙ s.taker;
            held = f.buffers.held ∙ s.held;
            stopped = c.stopped ∙ s.stopped;
            each = each_more left calls s.reads.count (source_of old) s.reads.bytes bytes mid new (s.each open_) c f ended;
          };
          more = part_of old ++ s.reads.bytes;
          all = ap (λ (l : List ℕ). (gone ++ (part_of old ++ s.reads.bytes)) ++ l) f.buffers.left
              ∙ (append_assoc gone (part_of old ++ s.reads.bytes) bytes ∙ ap (λ (l : List ℕ). gone ++ l) (append_assoc (part_of old) s.reads.bytes bytes));
          dropped = h.skips.dropped;
          inside = inside_wanting limits (bytes_of mid s) wants;
          done = omega (arith, step, done);
        }

    -- or failed
    pub skips_failed : bytes ≡ [] → (r : ReadsToSkip k limits (gone ++ part_of old) left calls old new) × (WantsMore limits (gone ++ (part_of old ++ r.bytes)) × SkipsAll limits gone (gone ++ (part_of old ++ r.bytes)) old new now)
    skips_failed nothing =
        let s = h.since in
        let same : h.since.reads.bytes ≡ h.since.reads.bytes ++ bytes = sym (append-nil s.reads.bytes) ∙ ap (λ (l : List ℕ). s.reads.bytes ++ l) (sym nothing) in
        let all : bytes_of mid s ≡ gone ++ (part_of old ++ (s.reads.bytes ++ bytes)) = ap (λ (l : List ℕ). gone ++ (part_of old ++ l)) same in
        let done = h.skips.done in
        let size = ap length all in
        let step = c.done in (
          reads_more,
          (
            subst (WantsMore limits) all wants,
            record { left = f.buffers.left ∙ nothing; done = omega (arith, step, done, size); stopped = c.stopped ∙ h.skips.stopped; dropped = subst (HasDropped now) all h.skips.dropped },
          ),
        )

-- the fault of what was refused
pub refusal_of : (stopped : Option ReadFault) → is_refusal stopped ≡ true → (fault : Fault) × IsRefusal stopped fault
refusal_of None e = absurd (false≢true e)
refusal_of (Some Memory) e = absurd (false≢true e)
refusal_of (Some (Format fault)) e = (fault, (refl, not_true (is_truncated fault.reason) e))
  where
    not_true : (b : Bool) → not b ≡ true → b ≡ false
    not_true false e = refl
    not_true true e = absurd (false≢true e)
refusal_of (Some Device) e = absurd (false≢true e)
refusal_of (Some TooManyReads) e = absurd (false≢true e)

pub refusal_is : (stopped : Option ReadFault) (fault : Fault) → IsRefusal stopped fault → is_refusal stopped ≡ true
refusal_is stopped fault r = ap is_refusal r.0 ∙ ap not r.1

-- nothing was dropped
pub none_inside : (r : Refused) (limits : Limits) → r.dropped ≡ 0 → (gone : List ℕ) → HasDropped r gone → AreInside limits gone
none_inside r limits zero gone h n s = let count = h.count in let there = s.there in omega (arith, zero, count, there)

module _ {R T B A : Type 0} {b : Ghosts B} where
  -- what holds of what was dropped, if anything was
  pub record AfterPass (limits : Limits) (new : Reader R T B A b) (now : Refused) : Type 0 where
    pub refused : 0 < now.dropped → is_refusal (stopped_of new) ≡ true
    pub alone : 0 < now.dropped → part_of new ≡ []
    pub inside : (gone : List ℕ) → HasDropped now gone → AreInside limits gone

  module _ (limits : Limits) (gone w : List ℕ) (mid new : Reader R T B A b) (now : Refused) (met : is_refusal (stopped_of mid) ≡ true) where
    after_all : AreInside limits w → SkipsAll limits gone w mid new now → AfterPass limits new now
    after_all inside s = record { refused = λ _. ap is_refusal s.stopped ∙ met; alone = λ _. s.left; inside = λ also h. inside_same now limits w also s.dropped h inside }

    pub after_pass : (res : Result Passed ReadFault) → SkipAnswers limits gone w mid new now res → AfterPass limits new now
    after_pass (Ok Over) s = record {
      refused = λ some. absurd (let zero = s.nothing in omega (arith, zero, some));
      alone = λ some. absurd (let zero = s.nothing in omega (arith, zero, some));
      inside = none_inside now limits s.nothing;
    }
    after_pass (Ok CutOff) s = after_all (inside_wanting limits w s.0) s.1
    after_pass (Ok Not) s = after_all (inside_none limits w s.0) s.1
    after_pass (Err Memory) s = absurd s
    after_pass (Err (Format fault)) s = absurd s
    after_pass (Err Device) s = after_all (inside_wanting limits w s.0) s.1
    after_pass (Err TooManyReads) s = after_all (inside_wanting limits w s.0) s.1

-- ---- a reader of raw messages, whose reader below let go of what its taker held

module _ {R A : Type 0} where
  -- it lends nothing, and keeps what is left of its buffer
  pub stands : (limits : Limits) (r : RawReader R A) → r.reader.taker ≡ fresh limits → (kept r ≡ part_of r.reader) × (lent_of r ≡ [])
  stands limits r e = (
    ap (λ (g : GathererState). under_way g.whole g.held ++ part_of r.reader) e,
    ap (λ (g : GathererState). whole_or g.whole g.held (slice_range (buffered r) (r.reader.start - g.lent) r.reader.start)) e
        ∙ no_part (buffered r) (r.reader.start - 0) r.reader.start (omega arith),
  )

  -- the reader below let go of what its taker held, and is the same else
  pub record LetsGo (old : RawReader R A) (mid : Reader R GathererState Large A ghosts) : Type 0 where
    pub nothing : ReadsNothing gathering old.reader mid
    pub part : part_of mid ≡ part_of old.reader
    pub held : mid.held ≡ old.reader.held
    pub done : done_of mid ≡ done_of old.reader
    pub stopped : stopped_of mid ≡ stopped_of old.reader
    pub taker : mid.taker ≡ fresh (limits_of old)

  module _ (old : RawReader R A) (mid : Reader R GathererState Large A ghosts) (g : LetsGo old mid) (gone : List ℕ) where
    abbrev held_of : List ℕ
    held_of = under_way old.reader.taker.whole old.reader.taker.held

    -- the message's bytes, with those that the taker held
    all_bytes : (bytes : List ℕ) → (gone ++ held_of) ++ (part_of mid ++ bytes) ≡ gone ++ (kept old ++ bytes)
    all_bytes bytes =
        ap (λ (l : List ℕ). (gone ++ held_of) ++ (l ++ bytes)) g.part
        ∙ (append_assoc gone held_of (part_of old.reader ++ bytes) ∙ ap (λ (l : List ℕ). gone ++ l) (sym (append_assoc held_of (part_of old.reader) bytes)))

    wanted_bytes : (before : List ℕ) → ((gone ++ held_of) ++ part_of mid) ++ before ≡ gone ++ (kept old ++ before)
    wanted_bytes before = append_assoc (gone ++ held_of) (part_of mid) before ∙ all_bytes before

    module _ (limits : Limits) (same : limits ≡ limits_of old) (left : R → Option (List ℕ)) (calls : R → ℕ) (new : RawReader R A) (taker : new.reader.taker ≡ mid.taker) where
      abbrev reads_on : ReadsToSkip gathering limits ((gone ++ held_of) ++ part_of mid) left calls mid new.reader → ReadsOn gone left calls old new
      reads_on r = reads_from gathering (λ before. WantsMore (limits_of old) (gone ++ (kept old ++ before))) left calls (λ before. WantsMore limits (((gone ++ held_of) ++ part_of mid) ++ before)) old.reader mid new.reader g.nothing
          (λ before wants. subst (WantsMore (limits_of old)) (wanted_bytes before) (subst (λ (l : Limits). WantsMore l (((gone ++ held_of) ++ part_of mid) ++ before)) same wants)) r

      drops_all : (bytes : List ℕ) → SkipsAll limits (gone ++ held_of) ((gone ++ held_of) ++ (part_of mid ++ bytes)) mid new.reader new.refused → DropsAll gone (gone ++ (kept old ++ bytes)) old new
      drops_all bytes s =
          let size = ap length (all_bytes bytes) in
          let both = length-append gone held_of in
          let count = old.held_counted in
          let done = s.done in
          let own = g.done in
          let held = g.held in
          record {
            kept = (stands (limits_of old) new (taker ∙ g.taker)).0 ∙ s.left;
            done = omega (arith, done, size, both, count, own, held);
            lent = (stands (limits_of old) new (taker ∙ g.taker)).1;
            stopped = s.stopped ∙ g.stopped;
            dropped = subst (HasDropped new.refused) (all_bytes bytes) s.dropped;
          }

      wants : (bytes : List ℕ) → WantsMore limits ((gone ++ held_of) ++ (part_of mid ++ bytes)) → WantsMore (limits_of old) (gone ++ (kept old ++ bytes))
      wants bytes w = subst (λ (l : Limits). WantsMore l (gone ++ (kept old ++ bytes))) same (subst (WantsMore limits) (all_bytes bytes) w)

      passed : (bytes : List ℕ) (res : Result Passed ReadFault) → SkipAnswers limits (gone ++ held_of) ((gone ++ held_of) ++ (part_of mid ++ bytes)) mid new.reader new.refused res
          → PassAnswers gone (gone ++ (kept old ++ bytes)) old new res
      passed bytes (Ok Over) s =
          let both = length-append gone held_of in
          let count = old.held_counted in
          let done = s.done in
          let own = g.done in
          let held = g.held in
          record {
            size = s.size;
            states = subst (λ (l : Limits). StatesSize l (gone ++ (kept old ++ bytes)) s.size) same (subst (λ (l : List ℕ). StatesSize limits l s.size) (all_bytes bytes) s.states);
            there = subst (λ (l : List ℕ). s.size ≤ length l) (all_bytes bytes) s.there;
            kept = (stands (limits_of old) new (taker ∙ g.taker)).0 ∙ (s.left ∙ ap (drop s.size) (all_bytes bytes));
            done = omega (arith, done, both, count, own, held);
            lent = (stands (limits_of old) new (taker ∙ g.taker)).1;
            stopped = s.stopped;
          }
      passed bytes (Ok CutOff) s = (wants bytes s.0, drops_all bytes s.1, s.2)
      passed bytes (Ok Not) s = (subst (λ (l : Limits). StatesNone l (gone ++ (kept old ++ bytes))) same (subst (StatesNone limits) (all_bytes bytes) s.0), drops_all bytes s.1)
      passed bytes (Err Memory) s = absurd s
      passed bytes (Err (Format fault)) s = absurd s
      passed bytes (Err Device) s = (wants bytes s.0, drops_all bytes s.1)
      passed bytes (Err TooManyReads) s = (wants bytes s.0, drops_all bytes s.1, s.2, s.3)

      -- what a call answers of which the reader below answers this
      pub passing : (res : Result Passed ReadFault) → (r : ReadsToSkip gathering limits ((gone ++ held_of) ++ part_of mid) left calls mid new.reader)
          × SkipAnswers limits (gone ++ held_of) ((gone ++ held_of) ++ (part_of mid ++ r.bytes)) mid new.reader new.refused res
          → (r : ReadsOn gone left calls old new) × PassAnswers gone (gone ++ (kept old ++ r.bytes)) old new res
      passing res r = (reads_on r.0, passed r.0.bytes res r.1)

  pub drops_none : (old : RawReader R A) → stopped_of old.reader ≡ None → 0 < old.refused.dropped → ⊥
  drops_none old none some = false≢true (sym (ap is_refusal none) ∙ old.dropped_refused some)

  pub drops_zero : (old : RawReader R A) → stopped_of old.reader ≡ None → old.refused.dropped ≡ 0
  drops_zero old none = elim (cases_lt 0 old.refused.dropped) [ inl some ↦ absurd (drops_none old none some) | inr zero ↦ omega (arith, zero) ]

  -- no more bytes were dropped, with those that the taker holds, than the message has
  pub inside_held : (old : RawReader R A) (gone : List ℕ) → WasDropped old gone → AreInside (limits_of old) (under_way old.reader.taker.whole old.reader.taker.held)
      → AreInside (limits_of old) (gone ++ under_way old.reader.taker.whole old.reader.taker.held)
  inside_held old gone has inside =
      let held = under_way old.reader.taker.whole old.reader.taker.held in
      elim (cases_lt 0 old.refused.dropped) [
        | inl some ↦ (
            let none = ap length (old.dropped_alone some) in
            let both = length-append held (part_of old.reader) in
            let nothing : held ≡ [] = nil_from_length held (omega (arith, none, both)) in
            subst (AreInside (limits_of old)) (sym (ap (λ (l : List ℕ). gone ++ l) nothing ∙ append-nil gone)) (old.dropped_inside gone has)
            )
        | inr zero ↦ (
            let count = has.count in
            let empty : gone ≡ [] = nil_from_length gone (omega (arith, count, zero)) in
            subst (AreInside (limits_of old)) (ap (λ (l : List ℕ). l ++ held) (sym empty)) inside
            )
      ]

  -- how many bytes the taker holds and the buffer has left
  pub few_left : (old : RawReader R A) → old.reader.end ≤ length (buffered old)
      → old.refused.dropped + length (under_way old.reader.taker.whole old.reader.taker.held) + length (part_of old.reader) ≤ 2 ^ 50
  few_left old room =
      let r = old.reader in
      let size = part_size (buffered old) r.start r.end r.in_order room in
      omega (arith, size, old.held_counted, old.dropped_counted, r.counted, r.few_reads, r.low_most)
