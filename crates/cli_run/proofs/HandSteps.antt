-- The turns in which a visitor takes the messages of a reader, from where it stands. k is what is
-- known of its taker, kept is what it kept there, and before is how many messages came before.
use Rattle.std.proofs.Common.{◌≡◌, ◌⊎◌, IfOk, Bool, false, ℕ, ◌+◌, ◌-◌, ◌<◌, List, [], ◌∷◌, ◌++◌, true, None, Some, Ok, Err, Option, Result, length, drop, take, refl, sym, ap, ◌∙◌, subst, arith, append-nil, inl, inr}
use Rattle.dbus_value_model.specs.declared.fault.Fault.{Fault}
use Rattle.dbus_value_model.specs.declared.limits.Limits.{Limits}
use Rattle.dbus_value_model.specs.declared.order.Order.{Order}
use Rattle.dbus_message_model.specs.Messages.{MessageTree}
use Rattle.dbus_validate.specs.declared.validating.Validated.{Validated}
use Rattle.dbus_header.specs.MessageOutcomes.{IsWhole, IsRefused, IsPartial}
use Rattle.dbus_header.proofs.OutcomeLaws.{nothing_partial}
use Rattle.dbus_device.specs.Device.{one_more}
use Rattle.dbus_device.specs.Packets.{Packets}
use Rattle.dbus_device.specs.declared.packet.Packet.{Packet}
use Rattle.dbus_stream.specs.Cut.{CutMessage, CutOutcome, Ended, Unfinished, Refused, IsOutcome}
use Rattle.dbus_stream.specs.CutEnds.{fault_at_end, sizes}
use Rattle.dbus_stream.specs.Gathering.{gathering}
use Rattle.dbus_stream.specs.Next.{DeviceCounts, IsCutShort, Reads}
use Rattle.dbus_stream.specs.RawReading.{Advances, Lends, kept, lent_of}
use Rattle.dbus_stream.specs.RawReading as raw
use Rattle.dbus_stream.specs.declared.raw_reader.RawReader.{RawReader}
use Rattle.dbus_stream.specs.Reading.{limits_of, source_of, done_of, read_of, last_of, reads_of, most_reads_of, is_ended, stopped_of}
use Rattle.dbus_stream.specs.Taking.{Taking}
use Rattle.dbus_stream.specs.declared.buffer.Buffer.{Ghosts}
use Rattle.dbus_stream.specs.declared.reader.Reader.{Reader}
use Rattle.dbus_stream.specs.declared.read_fault.ReadFault.{ReadFault}
use Rattle.dbus_stream.specs.declared.read_fault.ReadFault.TheVariants as read
use Rattle.cli_report.specs.declared.ending.Cause.{Cause}
use Rattle.cli_report.specs.declared.ending.Cause.TheVariants.{Memory, ReadFailed, WriteFailed, TooManyReads}
use Rattle.cli_run.specs.ByName.{ended_by, stopped_by}
use Rattle.cli_run.specs.Handing.{GivesNext, Stays}
use Rattle.cli_run.specs.Onward.{AreAll, AreHanded, HasKnownPackets, HasRead, HandsAllOn, HandsRawOn, HandsSomeOn, HandsOn, RawHandsOn, StopsFor}
use Rattle.cli_run.specs.Inputs.{IsPacketBefore, IsTimeBefore, Placed}
use Rattle.cli_run.specs.Needed.{ReadsIf}
use Rattle.cli_run.specs.Visiting.{AddsUp, AreWanted, FillsBy, IsOfReading, TakesOne}
use Rattle.cli_run.specs.declared.counted.Counted.{Counted}
use Rattle.cli_run.specs.declared.counted.NoMessage.{NoMessage}
use Rattle.cli_run.specs.declared.counted.NoMessage.TheVariants.{Reader as FromReader, Writer, Enough}
use Rattle.cli_run.specs.declared.place.MessagePlace.{MessagePlace}
use Rattle.cli_run.specs.declared.visitor.RunStop.{RunStop}
use Rattle.cli_run.specs.declared.visitor.RunStop.TheVariants.{Cause as ByCause}
use Rattle.dbus_stream.proofs.FaultPackets.{partial_take, raw_read}
use Rattle.dbus_stream.proofs.RawSteps.{starts, unread}
use Rattle.cli_run.proofs.OutputSteps.{lent_size, lent_whole}
use Rattle.cli_run.proofs.PartLaws.{placed_last}
use Rattle.cli_run.proofs.ReadSteps.{read_none, read_more, read_message, reads_more, reads_rest, sizes-last, length-last}
use Rattle.cli_run.proofs.Wanted.{wanted_last}

module _ {R T B A G S : Type 0} {b : Ghosts B} (k : Taking T G) (left : R → Option (List ℕ)) (calls failures : R → ℕ)
    (takes : S → S → List Placed → (told : List ℕ) → Type 0) (full : S → Bool) (limits : Limits) (kept : List ℕ) (before : ℕ) (Are : Option Packets → Type 0) where
  -- the visitor took the messages that were read so far, and the rest is kept
  pub record HasHanded (count : ℕ) (old new : Reader R T B A b) (rest : List ℕ) (s0 s1 : S) : Type 0 where
    pub items : List CutMessage
    pub read : HasRead k left calls limits kept old new items rest
    pub done : done_of new ≡ done_of old + sizes items
    pub unstopped : stopped_of new ≡ None
    pub failed : failures (source_of new) ≡ failures (source_of old)
    pub count_is : count ≡ before + length items
    pub messages : List Placed
    pub placed : AreHanded before Are (done_of old) items messages
    pub taken : takes s0 s1 messages []
    pub wanted : AreWanted (FillsBy takes full s0) [] messages
    pub needed : ReadsIf left calls (λ came. length kept + came < sizes items) (source_of old) (source_of new)

  pub hands_none : ((a : S) → takes a a [] []) → (reader : Reader R T B A b) (s : S) → limits_of k reader ≡ limits → stopped_of reader ≡ None
      → HasHanded before reader reader kept s s
  hands_none nothing reader s within unstopped = record {
    items = [];
    read = read_none k left calls limits kept reader within;
    done = omega arith;
    unstopped = unstopped;
    failed = refl;
    count_is = omega arith;
    messages = [];
    placed = λ packets are. refl;
    taken = nothing s;
    wanted = tt;
    needed = inl (omega arith);
  }

-- what a fault of the reader says of the bytes w that it keeps
abbrev pub Faults : {R T B A G : Type 0} {b : Ghosts B} → Taking T G → List ℕ → Reader R T B A b → Reader R T B A b → ReadFault → Type 0
Faults k w mid new read.Memory = Unit {0}
Faults k w mid new (read.Format fault) = (done_of new ≡ done_of mid) × (IsRefused (limits_of k mid) w fault ⊎ (IsCutShort (limits_of k mid) w fault × (is_ended new ≡ true)))
    × (read_of new ≡ done_of new + length w) × IsPartial (limits_of k mid) (take (length w - last_of new) w)
Faults k w mid new read.Device = IsPartial (limits_of k mid) w
Faults k w mid new read.TooManyReads = IsPartial (limits_of k mid) w × (reads_of new ≡ most_reads_of new)

-- the message that a reader lends
abbrev pub item_of : {R A : Type 0} {w : List ℕ} {j : Validated} {old new : RawReader R A} → Lends w j old new → CutMessage
item_of l = record { order = l.gives.order; message = l.gives.message; size = l.size }

-- it was taken, or not, by its bytes
pub took_lent : {R A S : Type 0} (takes : S → S → List Placed → (told : List ℕ) → Type 0) (leaves : S → S → List Placed → (told : List ℕ) → RunStop → Type 0) (s2 s3 : S) (limits : Limits)
    (w bytes : List ℕ) (j : Validated) (old new : RawReader R A) → bytes ≡ lent_of new → raw.limits_of old ≡ limits → (l : Lends w j old new) → (place : MessagePlace) (res : Result (Unit {0}) Cause)
    → ((order : Order) (m : MessageTree) → IsWhole limits bytes order m (length bytes)
    → TakesOne takes leaves s2 s3 (record { place = place; item = record { order = order; message = m; size = length bytes } }) res) → TakesOne takes leaves s2 s3 (record { place = place; item = item_of l }) res
took_lent takes leaves s2 s3 limits w bytes j old new e same l place res one =
    subst (λ (size : ℕ). TakesOne takes leaves s2 s3 (record { place = place; item = record { order = l.gives.order; message = l.gives.message; size = size } }) res) (lent_size limits w bytes j old new e l)
    (one l.gives.order l.gives.message (lent_whole limits w bytes j old new e same l))

-- what was read after that
module _ {R T B A G S : Type 0} {b : Ghosts B} {k : Taking T G} {left : R → Option (List ℕ)} {calls failures : R → ℕ} {takes : S → S → List Placed → (told : List ℕ) → Type 0}
    {leaves : S → S → List Placed → (told : List ℕ) → RunStop → Type 0} {settled : S → Type 0} {full : S → Bool} (laws : AddsUp takes leaves settled full) {limits : Limits} {kept : List ℕ} {before count : ℕ}
    {Are : Option Packets → Type 0} {old mid : Reader R T B A b} {rest : List ℕ} {s0 s1 : S} (h : HasHanded k left calls failures takes full limits kept before Are count old mid rest s0 s1) {new : Reader R T B A b}
    (r : Reads k left calls rest mid new) where
  -- no more are taken for this cause
  stays : (cause : Cause) {s2 s3 : S} → takes s0 s2 h.messages [] → leaves s2 s3 [] [] (ByCause cause) → leaves s0 s3 h.messages [] (ByCause cause)
  stays cause {s2} {s3} taken gave =
      subst (λ (l : List Placed). leaves s0 s3 l [] (ByCause cause)) (append-nil h.messages) (laws.leaves_after s0 s2 s3 h.messages [] [] [] (ByCause cause) taken gave)

  -- reading or writing is given up
  hands_some : (cause : Cause) {s2 : S} → AreAll limits cause (rest ++ r.bytes) → leaves s0 s2 h.messages [] (ByCause cause) → (IsOfReading (ByCause cause) → FillsBy takes full s0 h.messages false) → StopsFor failures cause old new
      → HandsSomeOn k left calls limits kept failures takes leaves full before Are cause old new s0 s2
  hands_some cause all gave unfilled caused = record {
    items = h.items;
    rest = rest ++ r.bytes;
    read = read_more k left calls limits kept old mid new h.items rest h.read r;
    all = all;
    messages = h.messages;
    placed = h.placed;
    wanted = h.wanted;
    unfilled = unfilled;
    given_up = gave;
    caused = caused;
  }

  -- the visitor could not let go what it held back
  pub hands_unwritten : {s2 : S} → leaves s1 s2 [] [] (ByCause WriteFailed) → failures (source_of new) ≡ failures (source_of mid)
      → HandsSomeOn k left calls limits kept failures takes leaves full before Are WriteFailed old new s0 s2
  hands_unwritten kept same = hands_some WriteFailed tt (stays WriteFailed h.taken kept) (λ never. absurd never) (same ∙ h.failed)

  -- it did, and wants more
  module _ {s2 : S} (go : takes s1 s2 [] []) (unfilled : full s2 ≡ false) where
    pub taken : takes s0 s2 h.messages []
    taken = subst (λ (l : List Placed). takes s0 s2 l []) (append-nil h.messages) (laws.joins s0 s1 s2 h.messages [] [] [] h.taken go)

    still_open : FillsBy takes full s0 h.messages false
    still_open = (s2, [], taken, unfilled)

    module _ (item : CutMessage) (whole : IsWhole (limits_of k mid) (rest ++ r.bytes) item.order item.message item.size) (same : failures (source_of new) ≡ failures (source_of mid)) where
      read_item : HasRead k left calls limits kept old new (h.items ++ item ∷ []) (drop item.size (rest ++ r.bytes))
      read_item =
          read_message k left calls limits kept old new h.items item (rest ++ r.bytes) (read_more k left calls limits kept old mid new h.items rest h.read r)
          (subst (λ l. IsWhole l (rest ++ r.bytes) item.order item.message item.size) h.read.limits_are whole)

      -- one more message, which is at this place
      module _ (place : MessagePlace) (number : place.number ≡ count + 1) (offset : place.offset ≡ done_of mid)
          (time : (packets : Option Packets) → Are packets → IsTimeBefore packets (done_of mid + item.size) place.time)
          (packet : (packets : Option Packets) → Are packets → IsPacketBefore packets (done_of mid + item.size) place.in_packet) where
        abbrev one_more_message : List Placed
        one_more_message = record { place = place; item = item } ∷ []

        last_is : AreHanded before Are (done_of old) (h.items ++ item ∷ []) (h.messages ++ one_more_message)
        last_is packets are = placed_last packets (before + 1) (done_of old) h.items item h.messages _ (h.placed packets are) (record {
          item_is = refl;
          number_is = omega (arith, number, h.count_is);
          offset_is = offset ∙ h.done;
          time_is = subst (λ (n : ℕ). IsTimeBefore packets (n + item.size) place.time) h.done (time packets are);
          packet_is = subst (λ (n : ℕ). IsPacketBefore packets (n + item.size) place.in_packet) h.done (packet packets are);
        })

        pub hands_more : {s3 : S} → done_of new ≡ done_of mid + item.size → stopped_of new ≡ None → takes s2 s3 one_more_message []
            → HasHanded k left calls failures takes full limits kept before Are (count + 1) old new (drop item.size (rest ++ r.bytes)) s0 s3
        hands_more {s3} done unstopped one = record {
          items = h.items ++ item ∷ [];
          read = read_item;
          done = omega (arith, done, h.done, sizes-last h.items item);
          unstopped = unstopped;
          failed = same ∙ h.failed;
          count_is = omega (arith, h.count_is, length-last h.items item);
          messages = h.messages ++ one_more_message;
          placed = last_is;
          taken = laws.joins s0 s2 s3 h.messages one_more_message [] [] taken one;
          wanted = wanted_last (FillsBy takes full s0) [] h.messages _ h.wanted still_open;
          needed = reads_more k left calls limits kept old mid new h.items rest h.read r h.needed item whole;
        }

        -- which is not taken
        pub hands_not : {s3 : S} (cause : Cause) → TakesOne takes leaves s2 s3 (record { place = place; item = item }) (Err cause)
            → HandsSomeOn k left calls limits kept failures takes leaves full before Are cause old new s0 s3
        hands_not {s3} Memory one = hands_some Memory tt (stays Memory taken one) (λ never. absurd never) (same ∙ h.failed)
        hands_not {s3} WriteFailed one = record {
          items = h.items ++ item ∷ [];
          rest = drop item.size (rest ++ r.bytes);
          read = read_item;
          all = tt;
          messages = h.messages ++ one_more_message;
          placed = last_is;
          wanted = wanted_last (FillsBy takes full s0) [] h.messages _ h.wanted still_open;
          unfilled = λ never. absurd never;
          given_up = laws.leaves_after s0 s2 s3 h.messages one_more_message [] [] (ByCause WriteFailed) taken one;
          caused = same ∙ h.failed;
        }
        hands_not cause one = absurd one

    -- no further message comes
    abbrev pub hands_all : (outcome : CutOutcome) (counted : Counted) → counted.count ≡ count → counted.size ≡ done_of new → done_of new ≡ done_of mid
        → counted.fault ≡ fault_at_end (rest ++ r.bytes) outcome → IsOutcome limits (rest ++ r.bytes) outcome → (((f : Fault) → outcome ≡ Refused f → ⊥) → is_ended new ≡ true)
        → failures (source_of new) ≡ failures (source_of mid) → read_of new ≡ done_of new + length (rest ++ r.bytes) → IsPartial limits (take (length (rest ++ r.bytes) - last_of new) (rest ++ r.bytes))
        → HandsAllOn k left calls limits kept failures takes leaves full before Are counted old new s0 s2
    hands_all outcome counted count_is size done fault is ended same read shows = record {
      items = h.items;
      rest = rest ++ r.bytes;
      outcome = outcome;
      read = read_more k left calls limits kept old mid new h.items rest h.read r;
      outcome_is = is;
      read_all = read;
      shows_last = shows;
      needed = reads_rest k left calls limits kept old mid new h.items rest h.read r h.needed;
      ended = ended;
      count_is = count_is ∙ h.count_is;
      size_is = size ∙ (done ∙ h.done);
      fault_is = fault;
      done = sym size;
      messages = h.messages;
      placed = h.placed;
      taken = taken;
      wanted = h.wanted;
      failed = same ∙ h.failed;
    }

    -- the bytes are no message, or end within one
    pub hands_refused : (fault : Fault) → Faults k (rest ++ r.bytes) mid new (read.Format fault) → failures (source_of new) ≡ failures (source_of mid)
        → (a : HandsAllOn k left calls limits kept failures takes leaves full before Are (record { count = count; size = done_of new; fault = Some fault }) old new s0 s2) × (a.rest ≡ rest ++ r.bytes)
    hands_refused fault answer same =
        let shows = subst (λ l. IsPartial l (take (length (rest ++ r.bytes) - last_of new) (rest ++ r.bytes))) h.read.limits_are answer.3 in
        elim answer.1 [
          | inl refused ↦ (
            hands_all (Refused fault) _ refl refl answer.0 refl (subst (λ l. IsRefused l (rest ++ r.bytes) fault) h.read.limits_are refused) (λ none. absurd (none fault refl)) same answer.2 shows,
            refl,
          )
          | inr short ↦ (
            hands_all Unfinished _ refl refl answer.0 (ap Some short.0.2) (short.0.0, subst (λ l. IsPartial l (rest ++ r.bytes)) h.read.limits_are short.0.1) (λ _. short.1) same answer.2 shows,
            refl,
          )
        ]

    -- the end of the input, if nothing is kept
    abbrev pub hands_ended : (counted : Counted) → counted.count ≡ count → counted.size ≡ done_of new → done_of new ≡ done_of mid → counted.fault ≡ None → rest ++ r.bytes ≡ [] → is_ended new ≡ true
        → failures (source_of new) ≡ failures (source_of mid) → read_of new ≡ done_of new + length (rest ++ r.bytes) → HandsAllOn k left calls limits kept failures takes leaves full before Are counted old new s0 s2
    hands_ended counted count_is size done fault none ended same read =
        hands_all Ended counted count_is size done fault none (λ _. ended) same read
        (subst (λ (l : List ℕ). IsPartial limits (take (length l - last_of new) l)) (sym none) (partial_take limits (0 - last_of new) [] (nothing_partial limits)))

    -- the reader has a fault
    pub hands_faulted : (fault : ReadFault) → Faults k (rest ++ r.bytes) mid new fault → DeviceCounts {T = Option G} (failures (source_of mid)) (failures (source_of new)) (Err fault)
        → settled s2 → HandsOn k left calls limits kept failures takes leaves full before Are old new s0 s2 (ended_by count (done_of new) fault)
    hands_faulted (read.Format fault) answer same o = (hands_refused fault answer same).0
    hands_faulted read.Memory answer same o = hands_some Memory tt (laws.rests s0 s2 h.messages [] taken o).0 (λ never. absurd never) (same ∙ h.failed)
    hands_faulted read.Device partial counts o =
        hands_some ReadFailed (subst (λ l. IsPartial l (rest ++ r.bytes)) h.read.limits_are partial) (laws.rests s0 s2 h.messages [] taken o).1 (λ _. still_open) (counts.0 ∙ ap one_more h.failed)
    hands_faulted read.TooManyReads answer same o =
        hands_some TooManyReads (subst (λ l. IsPartial l (rest ++ r.bytes)) h.read.limits_are answer.0) (laws.rests s0 s2 h.messages [] taken o).2 (λ _. still_open) (same ∙ h.failed, answer.1)

-- all that a reader of raw messages read and did not give is kept
pub raw_kept : {R A : Type 0} (w : List ℕ) (new : RawReader R A) → kept new ≡ w → raw.read_of new ≡ raw.done_of new + length w
raw_kept w new e = raw_read new ∙ ap (λ (l : List ℕ). raw.done_of new + length l) e

module _ {R A S : Type 0} {left : R → Option (List ℕ)} {calls failures : R → ℕ} {takes : S → S → List Placed → (told : List ℕ) → Type 0}
    {leaves : S → S → List Placed → (told : List ℕ) → RunStop → Type 0} {settled : S → Type 0} {full : S → Bool} (laws : AddsUp takes leaves settled full) {limits : Limits} {before : ℕ} where
  -- so it is if the reader looks at what it keeps
  pub still : {Are : Option Packets → Type 0} {count : ℕ} {s0 s1 : S} (old mid from : RawReader R A) → HasHanded gathering left calls failures takes full limits (kept old) before Are count old.reader mid.reader (kept mid) s0 s1
      → Stays mid from → HasHanded gathering left calls failures takes full limits (kept old) before Are count old.reader from.reader (kept from) s0 s1
  still old mid from h s =
      let read = read_more gathering left calls limits (kept old) old.reader mid.reader from.reader h.items (kept mid) h.read (unread left calls mid mid from (starts left calls mid) s.unread) in
      record {
        items = h.items;
        read = subst (λ (l : List ℕ). HasRead gathering left calls limits (kept old) old.reader from.reader h.items l) (append-nil (kept mid) ∙ sym s.kept_is) read;
        done = s.done ∙ h.done;
        unstopped = s.unstopped;
        failed = ap failures s.unread.source ∙ h.failed;
        count_is = h.count_is;
        messages = h.messages;
        placed = h.placed;
        taken = h.taken;
        wanted = h.wanted;
        needed = subst (λ (x : R). ReadsIf left calls (λ came. length (kept old) + came < sizes h.items) (source_of old.reader) x) (sym s.unread.source) h.needed;
      }

  module _ {packets : R → Option Packets} {packet : R → Option Packet} {count : ℕ} (old mid : RawReader R A) {s0 s1 : S}
      (h : HasHanded gathering left calls failures takes full limits (kept old) before (HasKnownPackets packets packet old) count old.reader mid.reader (kept mid) s0 s1) (new : RawReader R A) (s2 : S) where
    faults : (w : List ℕ) (fault : ReadFault) (from : RawReader R A) → Advances w from new (Err fault) → Faults gathering w from.reader new.reader fault
    faults w read.Memory from a = tt
    faults w (read.Format fault) from a = (a.0.done, a.2, raw_kept w new a.0.kept, a.3)
    faults w read.Device from a = a.2
    faults w read.TooManyReads from a = (a.2, a.3)

    abbrev Given : NoMessage → Type 0
    Given stop = GivesNext left calls failures takes leaves settled full mid new s1 s2 (Err stop)

    -- there is no next message
    faulted : (fault : ReadFault) (given : Given (FromReader fault)) → HandsOn gathering left calls limits (kept old) failures takes leaves full before (HasKnownPackets packets packet old) old.reader new.reader s0 s2 (ended_by count (raw.done_of new) fault)
    faulted fault (from, there, (r, a, counts, go, rests, unfilled)) = hands_faulted laws (still old mid from h there) r go unfilled fault (faults (kept from ++ r.bytes) fault from a) counts rests

    -- the visitor holds nothing back, unless a write failed
    pub settled_last : (stop : NoMessage) → Given stop → IfOk (stopped_by count (raw.done_of new) stop) (λ _. settled s2)
    settled_last (FromReader (read.Format fault)) (from, there, (r, a, counts, go, rests, unfilled)) = rests
    settled_last Enough (from, there, (same, go, rests, enough)) = rests
    settled_last stop given = tt

    pub hands_stopped : (stop : NoMessage) → Given stop → RawHandsOn left calls failures packets packet takes leaves full limits before old new s0 s2 (stopped_by count (raw.done_of new) stop)
    hands_stopped (FromReader (read.Format fault)) (from, there, (r, a, same, go, rests, unfilled)) =
        let all = hands_refused laws (still old mid from h there) r go unfilled fault (faults (kept from ++ r.bytes) (read.Format fault) from a) same in
        inl (record { all = all.0; kept = a.0.kept ∙ sym all.1; stopped = a.1; unfilled = unfilled })
    hands_stopped (FromReader fault) given = faulted fault given
    hands_stopped Writer (from, there, (r, back, same)) = hands_unwritten laws (still old mid from h there) r back same
    hands_stopped Enough (from, there, (same, go, rests, enough)) =
        let f = still old mid from h there in
        subst (λ (x : RawReader R A). RawHandsOn left calls failures packets packet takes leaves full limits before old x s0 s2 (stopped_by count (raw.done_of x) Enough)) (sym same) (inr (record {
          items = f.items;
          read = f.read;
          count_is = f.count_is;
          size_is = f.done;
          fault_is = refl;
          done = refl;
          messages = f.messages;
          placed = f.placed;
          taken = subst (λ (l : List Placed). takes s0 s2 l []) (append-nil f.messages) (laws.joins s0 s1 s2 f.messages [] [] [] f.taken go);
          wanted = f.wanted;
          enough = enough;
          needed = f.needed;
          failed = f.failed;
        }))

    -- the input ends after a message
    pub hands_end : (size : ℕ) → size ≡ raw.done_of new → GivesNext left calls failures takes leaves settled full mid new s1 s2 (Ok None)
        → HandsRawOn left calls failures packets packet takes leaves full limits before (record { count = count; size = size; fault = None }) old new s0 s2
    hands_end size is (from, there, (r, ends, same, go, rests, unfilled)) = record {
      all = hands_ended laws (still old mid from h there) r go unfilled _ refl is ends.2.done refl ends.0 ends.1 same (raw_kept _ new ends.2.kept);
      kept = ends.2.kept;
      stopped = ends.3;
      unfilled = unfilled;
    }
