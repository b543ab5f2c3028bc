-- What a reader over a gatherer answers, and what is copied of it.
use Rattle.std.proofs.Common.{◌≡◌, ℕ, ◌+◌, ◌-◌, ◌<◌, ◌≤◌, List, [], ◌++◌, None, Some, Ok, Err, Option, Result, Vec, length, length-append, take, drop, refl, sym, ap, ◌∙◌, subst, arith, take-append-drop, inl, inr}
use Rattle.std.specs.List.{slice_range}
use Rattle.std.proofs.lemmas.List.{length-take-le}
use Rattle.dbus_device.specs.Packets.{Packets, PacketsAfter}
use Rattle.dbus_device.specs.declared.packet.Packet.{Packet}
use Rattle.dbus_value_model.specs.declared.limits.Limits.{Limits}
use Rattle.dbus_value_model.specs.declared.fault.Fault.{Fault}
use Rattle.dbus_header.proofs.OutcomeLaws.{whole_inside}
use Rattle.dbus_validate.specs.declared.validating.Validated.{Validated}
use Rattle.dbus_validate.specs.Validating.{IsValidatedWhole}
use Rattle.dbus_stream.specs.Gathering.{GathererState, gathering, under_way, Rests}
use Rattle.dbus_stream.specs.Next as next
use Rattle.dbus_stream.specs.RawReading.{Advances, CopyAnswers, KeptAnswers, Reads, ReadsNothing, KeepsAll, Lends, GivesLent, IsNewReader, HasPackets, limits_of, buffered, kept, lent_of, done_of, read_of, last_of, stopped_of, whole_or}
use Rattle.dbus_stream.specs.Reading as reading
use Rattle.dbus_stream.specs.declared.buffer.Buffer.{Ghosts}
use Rattle.dbus_stream.specs.declared.raw_reader.RawReader.{RawReader}
use Rattle.dbus_stream.specs.declared.read_fault.ReadFault.{ReadFault}
use Rattle.dbus_stream.specs.declared.read_fault.ReadFault.TheVariants.{Memory, Format, Device, TooManyReads}
use Rattle.dbus_stream.specs.declared.reader.Reader.{Reader}
use Rattle.dbus_stream.proofs.CutLaws.{no_part}
use Rattle.dbus_stream.proofs.FaultPackets.{partial_take, shows_last}
use Rattle.dbus_stream.proofs.NextSteps as steps

module _ {R B A : Type 0} {b : Ghosts B} where
  -- what holds of the reader below at all times
  pub record IsLending (r : Reader R GathererState B A b) : Type 0 where
    pub before : r.taker.lent ≤ r.start
    pub counted : r.taker.lent ≤ r.done
    pub alone : 0 < r.taker.lent → r.taker.held ≡ []
    pub held : r.held ≡ length (under_way r.taker.whole r.taker.held)

  unlent : (r : Reader R GathererState B A b) → r.taker.lent ≡ 0 → r.held ≡ length (under_way r.taker.whole r.taker.held) → IsLending r
  unlent r none held = record { before = omega (arith, none); counted = omega (arith, none); alone = λ some. absurd (omega (arith, none, some)); held = held }

  resting : (r : Reader R GathererState B A b) (w : List ℕ) → reading.Keeps gathering r w → Rests r.taker → IsLending r
  resting r w k rests = unlent r rests.1 (k.size ∙ ap length (sym k.holds))

  giving : (w : List ℕ) (j : Validated) (old new : Reader R GathererState B A b) → next.GivesOf gathering w j old new → IsLending new
  giving w j old new (size, g, lends, there) =
      let done = g.done in
      let held : new.held ≡ length (under_way new.taker.whole new.taker.held) = g.kept.size ∙ ap length (sym g.kept.holds) in
      elim lends.place [
        | inl whole ↦ unlent new whole.2 held
        | inr part ↦ (
            let some = (whole_inside (old.taker.limits) w g.order g.message size g.whole).0 in
            let is_size = part.2 in
            let l = there (omega (arith, is_size, some)) in
            let inside = l.1 in
            record { before = omega (arith, is_size, inside); counted = omega (arith, is_size, done); alone = λ _. part.1; held = held }
            )
      ]

  refusing : (w : List ℕ) (fault : Fault) (old new : Reader R GathererState B A b) → next.Refuses gathering w fault old new → IsLending new
  refusing w fault old new r = unlent new r.keeps.1.1 (r.size ∙ (ap length (sym r.keeps.0) ∙ sym (ap (λ b. length (under_way b new.taker.held)) r.keeps.1.0)))

  -- after each answer
  pub lending_next : (w : List ℕ) (old new : Reader R GathererState B A b) (res : Result (Option Validated) ReadFault) → next.NextAnswers gathering w old new res
      → IsLending new
  lending_next w old new (Ok (Some j)) a = giving w j old new a
  lending_next w old new (Ok None) a = resting new w a.2.kept a.2.rests
  lending_next w old new (Err Memory) a = resting new w a.1.kept a.1.rests
  lending_next w old new (Err (Format fault)) a = elim a.2 [
    | inl r ↦ refusing w fault old new r
    | inr s ↦ resting new w s.2.kept s.2.rests
  ]
  lending_next w old new (Err Device) a = resting new w a.0.kept a.0.rests
  lending_next w old new (Err TooManyReads) a = resting new w a.0.kept a.0.rests

  pub lending_kept : (w : List ℕ) (old new : Reader R GathererState B A b) (res : Result (Option Validated) ReadFault) → next.KeptAnswers gathering w old new res
      → IsLending new
  lending_kept w old new (Ok (Some j)) a = giving w j old new a
  lending_kept w old new (Ok None) a = resting new w a.0.kept a.0.rests
  lending_kept w old new (Err Memory) a = resting new w a.1.kept a.1.rests
  lending_kept w old new (Err (Format fault)) a = refusing w fault old new a.2
  lending_kept w old new (Err Device) a = absurd a
  lending_kept w old new (Err TooManyReads) a = absurd a

module _ {R A : Type 0} where
  -- what it keeps, as the reader below does
  pub keeps : (r : RawReader R A) → reading.Keeps gathering r.reader (kept r)
  keeps r = record { held = under_way r.reader.taker.whole r.reader.taker.held; holds = refl; size = r.held_counted; bytes = refl }

  kept_is : (r : RawReader R A) (w : List ℕ) → reading.Keeps gathering r.reader w → kept r ≡ w
  kept_is r w k = ap (λ l. l ++ slice_range (buffered r) r.reader.start r.reader.end) k.holds ∙ sym k.bytes

  lends_none : (r : RawReader R A) → Rests r.reader.taker → lent_of r ≡ []
  lends_none r rests =
      let none = rests.1 in
      ap (λ b. whole_or b r.reader.taker.held (slice_range (buffered r) (r.reader.start - r.reader.taker.lent) r.reader.start)) rests.0
      ∙ no_part (buffered r) (r.reader.start - r.reader.taker.lent) r.reader.start (omega (arith, none))

  keeps_all : (w : List ℕ) (old new : RawReader R A) → next.KeepsAll gathering w old.reader new.reader → KeepsAll w old new
  keeps_all w old new a = record { kept = kept_is new w a.kept; done = a.done; lent = lends_none new a.rests }

  refuses : (w : List ℕ) (fault : Fault) (old new : RawReader R A) → done_of new ≡ done_of old → next.Refuses gathering w fault old.reader new.reader → KeepsAll w old new
  refuses w fault old new done r = record {
    kept = ap (λ b. under_way b new.reader.taker.held ++ slice_range (buffered new) new.reader.start new.reader.end) r.keeps.1.0
        ∙ (ap (λ l. l ++ slice_range (buffered new) new.reader.start new.reader.end) r.keeps.0 ∙ sym r.bytes);
    done = done;
    lent = lends_none new r.keeps.1;
  }

  lends : (w : List ℕ) (j : Validated) (old new : RawReader R A) → limits_of new ≡ limits_of old → next.GivesOf gathering w j old.reader new.reader → Lends w j old new
  lends w j old new same (size, g, l, there) =
      let lent_in = slice_range (buffered new) (new.reader.start - new.reader.taker.lent) new.reader.start in
      let lent_is : lent_of new ≡ take size w = elim l.place [
        | inl whole ↦ ap (λ b. whole_or b new.reader.taker.held lent_in) whole.0 ∙ whole.1
        | inr part ↦ (
            let some = (whole_inside (limits_of old) w g.order g.message size g.whole).0 in
            let is_size = part.2 in
            let t = there (omega (arith, is_size, some)) in
            ap (λ b. whole_or b new.reader.taker.held lent_in) part.0
            ∙ (ap (λ n. slice_range (buffered new) (new.reader.start - n) new.reader.start) part.2 ∙ t.2)
            )
      ] in
      record {
        size = size;
        gives = record {
          order = g.order;
          message = g.message;
          whole = g.whole;
          kept = kept_is new (drop size w) g.kept;
          done = g.done;
          unstopped = g.unstopped;
          in_last = g.in_last;
        };
        lent = lent_is;
        validated_is = subst (λ b. IsValidatedWhole (limits_of old) b j) (sym lent_is) (subst (λ limits. IsValidatedWhole limits (take size w) j) same l.validated);
      }

  -- what the reader below answers, of a reader of raw messages
  advances : (w : List ℕ) (old new : RawReader R A) (res : Result (Option Validated) ReadFault) → limits_of new ≡ limits_of old
      → next.NextAnswers gathering w old.reader new.reader res → Advances w old new res
  advances w old new (Ok (Some j)) same a = lends w j old new same a
  advances w old new (Ok None) same a = (a.0, a.1, keeps_all w old new a.2, a.3)
  advances w old new (Err Memory) same a = (keeps_all w old new a.1, a.2)
  advances w old new (Err (Format fault)) same a = elim a.2 [
    | inl r ↦ (refuses w fault old new a.0 r, a.1, inl r.refused, shows_last (limits_of old) new.reader w r.held r.bytes r.unshown)
    | inr s ↦ (keeps_all w old new s.2, a.1, inr (s.0, s.1), partial_take (limits_of old) (length w - last_of new) w s.0.1)
  ]
  advances w old new (Err Device) same a = (keeps_all w old new a.0, a.1, a.2)
  advances w old new (Err TooManyReads) same a = (keeps_all w old new a.0, a.1, a.2, a.3, a.4)

  pub answers_kept : (old new : RawReader R A) (res : Result (Option Validated) ReadFault) → limits_of new ≡ limits_of old
      → next.KeptAnswers gathering (kept old) old.reader new.reader res → KeptAnswers old new res
  answers_kept old new (Ok (Some j)) same a = lends (kept old) j old new same a
  answers_kept old new (Ok None) same a = (keeps_all (kept old) old new a.0, a.1, a.2)
  answers_kept old new (Err Memory) same a = (keeps_all (kept old) old new a.1, a.2)
  answers_kept old new (Err (Format fault)) same a = (refuses (kept old) fault old new a.0 a.2, a.1, a.2.refused, shows_last (limits_of old) new.reader (kept old) a.2.held a.2.bytes a.2.unshown)
  answers_kept old new (Err Device) same a = absurd a
  answers_kept old new (Err TooManyReads) same a = absurd a

  module _ (left : R → Option (List ℕ)) (calls : R → ℕ) where
    abbrev pub starts : (old : RawReader R A) → Reads left calls old old
    starts old = steps.starts gathering left calls (kept old) old.reader

    abbrev pub unread : (old mid new : RawReader R A) → Reads left calls old mid → ReadsNothing mid new → Reads left calls old new
    unread old mid new r n = steps.unread gathering left calls (kept old) old.reader mid.reader new.reader r n

    pub answers_next : (old new : RawReader R A) (res : Result (Option Validated) ReadFault)
        → ((r : Reads left calls old new) × (stopped_of old ≡ None → next.NextAnswers gathering (kept old ++ r.bytes) old.reader new.reader res))
        → (r : Reads left calls old new) × (stopped_of old ≡ None → Advances (kept old ++ r.bytes) old new res)
    answers_next old new res a = (a.0, λ unstopped. advances (kept old ++ a.0.bytes) old new res a.0.limits (a.1 unstopped))

    -- a copy of the message that is lent
    copied : (w : List ℕ) (j : Validated) (old mid new : RawReader R A) (res : Result (Option (Vec ℕ A)) ReadFault) → Lends w j old mid → GivesLent mid new res → ReadsNothing mid new → CopyAnswers w old new res
    copied w j old mid new (Ok (Some bytes)) l c n = record {
      size = l.size;
      gives = record {
        order = l.gives.order;
        message = l.gives.message;
        whole = l.gives.whole;
        kept = c.kept ∙ l.gives.kept;
        done = c.done ∙ l.gives.done;
        unstopped = c.stopped ∙ l.gives.unstopped;
        in_last = (let inside = l.gives.in_last in let read = n.read in let last = n.last in let done = c.done in omega (arith, inside, read, last, done));
      };
      bytes_are = c.bytes_are ∙ l.lent;
      lent = c.lent;
    }
    copied w j old mid new (Ok None) l c n = absurd c
    copied w j old mid new (Err Memory) l c n =
        let inside = (whole_inside (limits_of old) w l.gives.order l.gives.message l.size l.gives.whole).1 in
        let size_is : length (lent_of mid) ≡ l.size = ap length l.lent ∙ length-take-le l.size w inside in
        let done = c.done in
        let done_mid = l.gives.done in (
          record {
            kept = c.kept ∙ (ap (λ bytes. bytes ++ kept mid) l.lent ∙ (ap (λ bytes. take l.size w ++ bytes) l.gives.kept ∙ take-append-drop l.size w));
            done = omega (arith, size_is, done, done_mid);
            lent = c.lent;
          },
          c.stopped ∙ l.gives.unstopped,
        )
    copied w j old mid new (Err (Format fault)) l c n = absurd c
    copied w j old mid new (Err Device) l c n = absurd c
    copied w j old mid new (Err TooManyReads) l c n = absurd c

    pub gives_copy : (j : Validated) (old mid new : RawReader R A) (res : Result (Option (Vec ℕ A)) ReadFault)
        → ((r : Reads left calls old mid) × (stopped_of old ≡ None → Advances (kept old ++ r.bytes) old mid (Ok (Some j))))
        → GivesLent mid new res → ReadsNothing mid new
        → (r : Reads left calls old new) × (stopped_of old ≡ None → CopyAnswers (kept old ++ r.bytes) old new res)
    gives_copy j old mid new res a c n = (unread old mid new a.0 n, λ unstopped. copied (kept old ++ a.0.bytes) j old mid new res (a.1 unstopped) c n)

  module _ (packets : R → Option Packets) (packet : R → Option Packet) where
    -- a new reader begins with the packets of its device
    pub begins : (device : R) (most : ℕ) (limits : Limits) (r : RawReader R A) (all : Packets) → IsNewReader device most limits r → packets device ≡ Some all → HasPackets packets packet all r
    begins device most limits r all n told =
        let front = under_way r.reader.taker.whole r.reader.taker.held in
        let size = ap length n.kept in
        let both = length-append front (reading.part_of r.reader) in
        let held = r.held_counted in
        let done = n.done in
        let last = n.last in
        let none : read_of r ≡ 0 = omega (arith, size, both, held, done) in
        record {
          left = subst (λ (s : Option Packets). PacketsAfter (read_of r) (Some all) s) (sym (ap packets n.source ∙ told)) (λ i. ap all (let same : i ≡ read_of r + i = omega (arith, none) in same));
          first = 0;
          told = λ i from before. absurd (omega (arith, before, none));
          last = omega (arith, last);
          some = λ some. omega (arith, some);
          unpacked = λ _ i before. absurd (omega (arith, before, none));
        }
