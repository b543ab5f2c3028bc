-- The steps of `next`: what was read so far, one more read, and the answer.
use Rattle.std.proofs.Common.{◌≡◌, ℕ, ◌+◌, ◌*◌, ◌<◌, ◌≤◌, ◌^◌, ◌%◌, List, [], ◌∷◌, ◌++◌, Bool, true, false, None, Some, Ok, Err, Option, Result, length, refl, sym, ap, ◌∙◌, subst, arith, append_assoc, append-nil, inl, inr}
use Rattle.std.specs.Prelude.{nat_eq, ◌-◌, suc}
use Rattle.std.specs.Io.KnownBytes.{Consumes, IsAtEnd}
use Rattle.std.proofs.KnownBytes.{Consumes-nil, Consumes-trans, Consumes-kept}
use Rattle.std.proofs.Math.Nat.{mul-le-mul_left}
use Rattle.std.proofs.lemmas.List.{nil_from_length}
use Rattle.dbus_value_model.specs.declared.fault.Fault.{Fault}
use Rattle.dbus_value_model.specs.declared.fault.Reason.TheVariants.{Truncated}
use Rattle.dbus_header.specs.MessageOutcomes.{IsWhole, IsRefused, IsPartial}
use Rattle.dbus_device.specs.Device.{one_more, RisesBy}
use Rattle.dbus_stream.specs.declared.buffer.Buffer.{Ghosts}
use Rattle.dbus_stream.specs.declared.reader.Reader.{Reader}
use Rattle.dbus_stream.specs.declared.read_fault.ReadFault.{ReadFault}
use Rattle.dbus_stream.specs.declared.read_fault.ReadFault.TheVariants.{Memory, Format, Device, TooManyReads}
use Rattle.dbus_stream.specs.Lasting.{is_lasting}
use Rattle.dbus_stream.specs.LookingAhead.{StandsBefore}
use Rattle.dbus_stream.specs.Next.{NextAnswers, KeptAnswers, DeviceCounts, Reads, ReadsWhile, KeepsAll, IsCutShort, ReadsNothing}
use Rattle.dbus_stream.specs.Reading.{limits_of, source_of, part_of, done_of, reads_of, most_reads_of, is_ended, stopped_of, Keeps}
use Rattle.dbus_stream.specs.Steps.{Buffers, Stops, Calls, EachGave, FillsBy, FillsNone}
use Rattle.dbus_stream.specs.Taking.{Taking}

-- a count that rose by k rises once more
pub RisesBy-more : (k a b c : ℕ) → RisesBy k a b → c ≡ one_more b → RisesBy (k + 1) a c
RisesBy-more k a b c r e = omega (arith, r, e)

-- a fault that is answered for good is none of the device
pub lasts : (T : Type 0) (failures : ℕ) (stopped : Option ReadFault) (fault : ReadFault) → stopped ≡ Some fault → is_lasting stopped ≡ true
    → DeviceCounts {T = T} failures failures (Err fault)
lasts T failures stopped Memory e l = refl
lasts T failures stopped (Format fault) e l = refl
lasts T failures stopped TooManyReads e l = refl
lasts T failures stopped Device e l = let same : false ≡ true = ap is_lasting (sym e) ∙ l in cc

-- a test does not hold both ways
pub both_ways : (b : Bool) → b ≡ true → b ≡ false → ⊥
both_ways b t f = let same : true ≡ false = sym t ∙ f in cc

-- a read that is not the end gave a byte
pub gave : (bytes : List ℕ) (ended : Bool) → ended ≡ nat_eq (length bytes) 0 → ended ≡ false → 0 < length bytes
gave [] ended e open_ = absurd (both_ways ended e open_)
gave (x ∷ xs) ended e open_ = omega arith

-- what is given is at most what so many reads brought
pub few_done : (N done reads most : ℕ) → done ≤ N * reads → reads ≤ most → most ≤ 2 ^ 32 → done ≤ N * 2 ^ 32
few_done N done reads most counted few low =
    let all = mul-le-mul_left N (let r : reads ≤ 2 ^ 32 = omega (arith, few, low) in r) in
    omega (arith, counted, all)

module _ {R T B A G : Type 0} {b : Ghosts B} (k : Taking T G) (Needed : List ℕ → Type 0) (left : R → Option (List ℕ)) (calls : R → ℕ) where
  -- nothing was read yet
  abbrev pub reads_none : (old : Reader R T B A b) → ReadsWhile k Needed left calls old old
  reads_none old = record {
    bytes = [];
    count = 0;
    consumed = Consumes-nil (left (source_of old));
    each = (refl, refl);
    last = [];
    before = [];
    joined = refl;
    last_fits = omega arith;
    between = source_of old;
    came = Consumes-nil (left (source_of old));
    one_call = λ some. absurd (omega (arith, some));
    needed = λ some. absurd (omega (arith, some));
    reads = omega arith;
    called = ap (λ k. k % 2 ^ 64) (omega arith);
    most_reads = refl;
    limits = refl;
    settled = λ e. (refl, refl, e, refl);
    at_end = λ f t. absurd (both_ways (is_ended old) t f);
  }

  -- a step that reads nothing
  abbrev pub reads_still : (old mid new : Reader R T B A b) → ReadsWhile k Needed left calls old mid → ReadsNothing k mid new → ReadsWhile k Needed left calls old new
  reads_still old mid new r n = record {
    bytes = r.bytes;
    count = r.count;
    each = r.each;
    last = r.last;
    before = r.before;
    joined = r.joined;
    last_fits = r.last_fits;
    between = r.between;
    came = r.came;
    needed = r.needed;
    consumed = subst (λ s. Consumes (left (source_of old)) (left s) r.bytes) (sym n.source) r.consumed;
    one_call = λ some. ap calls n.source ∙ r.one_call some;
    reads = n.reads ∙ r.reads;
    called = subst (λ s. RisesBy r.count (calls (source_of old)) (calls s)) (sym n.source) r.called;
    most_reads = n.most_reads ∙ r.most_reads;
    limits = n.limits ∙ r.limits;
    settled = λ e. ((r.settled e).0, (r.settled e).1, n.ended ∙ (r.settled e).2, n.source ∙ (r.settled e).3);
    at_end = λ f t. subst (λ s. IsAtEnd (left s)) (sym n.source) (r.at_end f (sym n.ended ∙ t));
  }

  -- a step after which the reader stands before bytes that it read
  abbrev pub reads_put : (bytes : List ℕ) (old mid new : Reader R T B A b) → ReadsWhile k Needed left calls old mid → StandsBefore bytes mid new → ReadsWhile k Needed left calls old new
  reads_put bytes old mid new r n = record {
    bytes = r.bytes;
    count = r.count;
    each = r.each;
    last = r.last;
    before = r.before;
    joined = r.joined;
    last_fits = r.last_fits;
    between = r.between;
    came = r.came;
    needed = r.needed;
    consumed = subst (λ s. Consumes (left (source_of old)) (left s) r.bytes) (sym n.source) r.consumed;
    one_call = λ some. ap calls n.source ∙ r.one_call some;
    reads = n.reads ∙ r.reads;
    called = subst (λ s. RisesBy r.count (calls (source_of old)) (calls s)) (sym n.source) r.called;
    most_reads = n.most_reads ∙ r.most_reads;
    limits = ap k.limits n.taker ∙ r.limits;
    settled = λ e. ((r.settled e).0, (r.settled e).1, n.ended ∙ (r.settled e).2, n.source ∙ (r.settled e).3);
    at_end = λ f t. subst (λ s. IsAtEnd (left s)) (sym n.source) (r.at_end f (sym n.ended ∙ t));
  }

  -- what is read after a step that reads nothing
  abbrev pub reads_from : (Wanted : List ℕ → Type 0) (old mid new : Reader R T B A b) → ReadsNothing k old mid → ((before : List ℕ) → Wanted before → Needed before)
      → ReadsWhile k Wanted left calls mid new → ReadsWhile k Needed left calls old new
  reads_from Wanted old mid new n wanted r = record {
    bytes = r.bytes;
    count = r.count;
    each = subst (λ (s : R). EachGave left calls (r.count - 1) s r.before r.between) n.source r.each;
    last = r.last;
    before = r.before;
    joined = r.joined;
    last_fits = r.last_fits;
    between = r.between;
    one_call = r.one_call;
    consumed = subst (λ (s : R). Consumes (left s) (left (source_of new)) r.bytes) n.source r.consumed;
    came = subst (λ (s : R). Consumes (left s) (left r.between) r.before) n.source r.came;
    needed = λ some. wanted r.before (r.needed some);
    reads = r.reads ∙ ap (λ x. x + r.count) n.reads;
    called = subst (λ (s : R). RisesBy r.count (calls s) (calls (source_of new))) n.source r.called;
    most_reads = r.most_reads ∙ n.most_reads;
    limits = r.limits ∙ n.limits;
    settled = λ e. let s = r.settled (n.ended ∙ e) in (s.0, s.1, s.2, s.3 ∙ n.source);
    at_end = λ e f. r.at_end (n.ended ∙ e) f;
  }

  -- one more read, where each gave a byte before
  abbrev pub reads_one : (old mid new : Reader R T B A b) (r : ReadsWhile k Needed left calls old mid) → is_ended mid ≡ false → EachGave left calls r.count (source_of old) r.bytes (source_of mid) → Needed r.bytes
      → Calls calls mid new → (bytes : List ℕ) → FillsBy left bytes mid new → ReadsWhile k Needed left calls old new
  reads_one old mid new r open_ each wanted c bytes f = record {
    bytes = r.bytes ++ bytes;
    count = r.count + 1;
    consumed = Consumes-trans _ _ _ _ _ r.consumed f.consumed;
    each = (let e : r.count ≡ r.count + 1 - 1 = omega arith in subst (λ (n : ℕ). EachGave left calls n (source_of old) r.bytes (source_of mid)) e each);
    last = bytes;
    before = r.bytes;
    joined = refl;
    last_fits = f.few;
    between = source_of mid;
    came = r.consumed;
    one_call = λ _. c.called;
    needed = λ _. wanted;
    reads = omega (arith, c.reads, r.reads);
    called = RisesBy-more r.count _ _ _ r.called c.called;
    most_reads = c.most_reads ∙ r.most_reads;
    limits = ap k.limits f.buffers.taker ∙ r.limits;
    settled = λ e. absurd (both_ways (is_ended mid) (r.settled e).2 open_);
    at_end = λ _ t. f.at_end t;
  }

-- one more call, which is not the end
pub each_more : {R T B A : Type 0} {b : Ghosts B} (left : R → Option (List ℕ)) (calls : R → ℕ) (n : ℕ) (old : R) (before bytes : List ℕ) (mid new : Reader R T B A b)
    → EachGave left calls n old before (source_of mid) → Calls calls mid new → FillsBy left bytes mid new → is_ended new ≡ nat_eq (length bytes) 0 → is_ended new ≡ false
    → EachGave left calls (n + 1) old (before ++ bytes) (source_of new)
each_more left calls n old before bytes mid new each c f ended more =
    let some = gave bytes (is_ended new) ended more in
    let all : EachGave left calls (suc n) old (before ++ bytes) (source_of new)
    = (source_of mid, before, bytes, refl, (λ none. let nothing = ap length none in absurd (omega (arith, some, nothing))), each, f.consumed, c.called) in
    let same : suc n ≡ n + 1 = omega arith in
    subst (λ (m : ℕ). EachGave left calls m old (before ++ bytes) (source_of new)) same all

-- a read that failed adds nothing
pub adds_none : {R T B A : Type 0} {b : Ghosts B} (left : R → Option (List ℕ)) (old new : Reader R T B A b) → is_ended old ≡ false → FillsNone left old new → FillsBy left [] old new
adds_none left old new open_ f = record {
  consumed = Consumes-kept _ _ _ _ (Consumes-nil (left (source_of old))) f.source;
  few = omega arith;
  buffers = f.buffers;
  at_end = λ t. absurd (both_ways (is_ended old) (sym f.ended ∙ t) open_);
}

module _ {R T B A G : Type 0} {b : Ghosts B} (k : Taking T G) where
  -- where nothing is left of the buffer, the taker holds all
  held_all : (w : List ℕ) (r : Reader R T B A b) → part_of r ≡ [] → (kept : Keeps k r w) → w ≡ kept.held
  held_all w r none kept = kept.bytes ∙ (ap (λ l. kept.held ++ l) none ∙ append-nil kept.held)

  -- the taker holds the same, and the buffer has other bytes left
  held_still : (w bytes : List ℕ) (old new : Reader R T B A b) (kept : Keeps k old w) → Buffers bytes old new → Keeps k new (kept.held ++ bytes)
  held_still w bytes old new kept b = record {
    held = kept.held;
    holds = subst (λ t. k.holds t kept.held) (sym b.taker) kept.holds;
    size = b.held ∙ kept.size;
    bytes = ap (λ l. kept.held ++ l) (sym b.left);
  }

  -- a reader that stops keeps all
  stopping : (w : List ℕ) (fault : ReadFault) (old new : Reader R T B A b) → Keeps k old w → k.rests old.taker → Stops fault old new → KeepsAll k w old new
  stopping w fault old new kept rests s = record {
    kept = subst (Keeps k new) (sym kept.bytes) (held_still w (part_of old) old new kept s.buffers);
    done = s.done;
    rests = subst k.rests (sym s.buffers.taker) rests;
  }

  module _ (left : R → Option (List ℕ)) (calls : R → ℕ) (w : List ℕ) (old : Reader R T B A b) where
    -- the reader read so far where w was kept, and gave nothing
    pub record HasRead (mid : Reader R T B A b) : Type 0 where
      pub reads : Reads k left calls w old mid
      pub kept : Keeps k mid (w ++ reads.bytes)
      pub done : done_of mid ≡ done_of old
      -- each read gave a byte
      pub each : is_ended mid ≡ false → EachGave left calls reads.count (source_of old) reads.bytes (source_of mid)

    -- no message ends in what is kept
    pub record Wants (mid : Reader R T B A b) : Type 0 where
      pub so_far : HasRead mid
      pub partial : IsPartial (limits_of k old) (w ++ so_far.reads.bytes)
      pub rests : k.rests mid.taker

    -- nothing was read yet
    abbrev pub starts : Reads k left calls w old old
    starts = reads_none k (λ before. IsPartial (limits_of k old) (w ++ before)) left calls old

    pub begins : Keeps k old w → HasRead old
    begins kept = record {
      reads = starts;
      kept = subst (λ l. Keeps k old l) (sym (append-nil w)) kept;
      done = refl;
      each = λ open_. (refl, refl);
    }

    -- a step that reads nothing
    abbrev pub unread : (mid new : Reader R T B A b) → Reads k left calls w old mid → ReadsNothing k mid new → Reads k left calls w old new
    unread mid new r n = reads_still k (λ before. IsPartial (limits_of k old) (w ++ before)) left calls old mid new r n

    -- the taker was handed all of what is kept
    pub wants : (mid new : Reader R T B A b) (h : HasRead mid) → KeptAnswers k (w ++ h.reads.bytes) mid new (Ok None) → ReadsNothing k mid new → Wants new
    wants mid new h t n = record {
      so_far = record {
        reads = unread mid new h.reads n;
        kept = t.0.kept;
        done = t.0.done ∙ h.done;
        each = λ open_. subst (EachGave left calls h.reads.count (source_of old) h.reads.bytes) (sym n.source) (h.each (sym n.ended ∙ open_));
      };
      partial = subst (λ limits. IsPartial limits (w ++ h.reads.bytes)) h.reads.limits t.2;
      rests = t.0.rests;
    }

    keeps_since : (v : List ℕ) (mid new : Reader R T B A b) → done_of mid ≡ done_of old → KeepsAll k v mid new → KeepsAll k v old new
    keeps_since v mid new d a = record { kept = a.kept; done = a.done ∙ d; rests = a.rests }

    -- what comes of the bytes that are kept is the answer
    answers_taken : (v : List ℕ) (mid new : Reader R T B A b) (res : Result (Option G) ReadFault) → (res ≡ Ok None → ⊥) → limits_of k mid ≡ limits_of k old
        → done_of mid ≡ done_of old → KeptAnswers k v mid new res → NextAnswers k v old new res
    answers_taken v mid new (Ok (Some given)) some e d (size, g, gives, lends) =
        let whole = subst (λ limits. IsWhole limits v g.order g.message size) e g.whole in
        (size, record { order = g.order; message = g.message; whole = whole; kept = g.kept; done = g.done ∙ ap (λ n. n + size) d; unstopped = g.unstopped; in_last = g.in_last }, gives, lends)
    answers_taken v mid new (Ok None) some e d t = absurd (some refl)
    answers_taken v mid new (Err Memory) some e d t = (t.0, keeps_since v mid new d t.1, t.2)
    answers_taken v mid new (Err (Format fault)) some e d t =
        let refused = subst (λ limits. IsRefused limits v fault) e t.2.refused in
        let unshown = subst (λ limits. IsPartial limits t.2.held) e t.2.unshown in
        (t.0 ∙ d, t.1, inl (record { refused = refused; held = t.2.held; unshown = unshown; keeps = t.2.keeps; size = t.2.size; bytes = t.2.bytes }))
    answers_taken v mid new (Err Device) some e d t = absurd t
    answers_taken v mid new (Err TooManyReads) some e d t = absurd t

    -- what `next` answers
    abbrev pub Answers : Reader R T B A b → Result (Option G) ReadFault → Type 0
    Answers new res = (r : Reads k left calls w old new) × (stopped_of old ≡ None → NextAnswers k (w ++ r.bytes) old new res)

    pub given : (mid new : Reader R T B A b) (res : Result (Option G) ReadFault) (h : HasRead mid) → (res ≡ Ok None → ⊥)
        → KeptAnswers k (w ++ h.reads.bytes) mid new res → ReadsNothing k mid new → Answers new res
    given mid new res h some t n = (unread mid new h.reads n, λ _. answers_taken (w ++ h.reads.bytes) mid new res some h.reads.limits h.done t)

    -- the end of the input, where nothing is kept
    pub ended : (mid : Reader R T B A b) → Wants mid → part_of mid ≡ [] → stopped_of mid ≡ None → is_ended mid ≡ true → mid.held ≡ 0 → Answers mid (Ok None)
    ended mid h drained unstopped e zero =
        let all = w ++ h.so_far.reads.bytes in
        let kept = h.so_far.kept in
        let none : all ≡ [] = nil_from_length all (ap length (held_all all mid drained kept) ∙ (sym kept.size ∙ zero)) in
        (h.so_far.reads, λ _. (none, e, record { kept = kept; done = h.so_far.done; rests = h.rests }, unstopped))

    -- and within a message
    pub cut_short : (mid new : Reader R T B A b) → Wants mid → part_of mid ≡ [] → is_ended mid ≡ true → 0 < mid.held → (fault : Fault) → fault ≡ record { at = mid.held; reason = Truncated }
        → Stops (Format fault) mid new → ReadsNothing k mid new → Answers new (Err (Format fault))
    cut_short mid new h drained e some fault is s n =
        let all = w ++ h.so_far.reads.bytes in
        let kept = h.so_far.kept in
        let size : mid.held ≡ length all = kept.size ∙ ap length (sym (held_all all mid drained kept)) in
        let short : IsCutShort (limits_of k old) all fault = ((λ none. absurd (let nothing = ap length none in omega (arith, some, size, nothing))), h.partial, is ∙ ap (λ n. record { at = n; reason = Truncated }) size) in (
          unread mid new h.so_far.reads n,
          λ _. (s.done ∙ h.so_far.done, s.stopped, inr (short, n.ended ∙ e, keeps_since all mid new h.so_far.done (stopping all (Format fault) mid new kept h.rests s))),
        )

    -- no more reads may be made
    pub gave_up : (mid new : Reader R T B A b) → Wants mid → reads_of mid ≡ most_reads_of mid → is_ended mid ≡ false → Stops TooManyReads mid new → ReadsNothing k mid new
        → Answers new (Err TooManyReads)
    gave_up mid new h e open_ s n =
        let all = w ++ h.so_far.reads.bytes in (
          unread mid new h.so_far.reads n,
          λ _. (
            keeps_since all mid new h.so_far.done (stopping all TooManyReads mid new h.so_far.kept h.rests s),
            s.stopped,
            h.partial,
            n.reads ∙ (e ∙ sym n.most_reads),
            n.ended ∙ open_,
          ),
        )

    -- one more read, of which these bytes came
    module _ (mid new : Reader R T B A b) (bytes : List ℕ) (h : Wants mid) (drained : part_of mid ≡ []) (open_ : is_ended mid ≡ false) (c : Calls calls mid new) (f : FillsBy left bytes mid new) where
      abbrev reads_more : Reads k left calls w old new
      reads_more = reads_one k (λ before. IsPartial (limits_of k old) (w ++ before)) left calls old mid new h.so_far.reads open_ (h.so_far.each open_) h.partial c bytes f

      keeps_more : Keeps k new (w ++ (h.so_far.reads.bytes ++ bytes))
      keeps_more =
          let held = held_still (w ++ h.so_far.reads.bytes) bytes mid new h.so_far.kept f.buffers in
          subst (Keeps k new) (ap (λ l. l ++ bytes) (sym (held_all (w ++ h.so_far.reads.bytes) mid drained h.so_far.kept)) ∙ append_assoc w h.so_far.reads.bytes bytes) held

      -- or the end
      pub filled : is_ended new ≡ nat_eq (length bytes) 0 → HasRead new
      filled ended_ = record {
        reads = reads_more;
        kept = keeps_more;
        done = c.done ∙ h.so_far.done;
        each = each_more left calls h.so_far.reads.count (source_of old) h.so_far.reads.bytes bytes mid new (h.so_far.each open_) c f ended_;
      }

      -- or none, where it failed
      pub failed_read : bytes ≡ [] → stopped_of new ≡ None → Answers new (Err Device)
      failed_read none unstopped = (
        reads_more,
        λ _. (
          record { kept = keeps_more; done = c.done ∙ h.so_far.done; rests = subst k.rests (sym f.buffers.taker) h.rests },
          unstopped,
          subst (λ l. IsPartial (limits_of k old) (w ++ l)) (sym (append-nil h.so_far.reads.bytes) ∙ ap (λ l. h.so_far.reads.bytes ++ l) (sym none)) h.partial,
        ),
      )
