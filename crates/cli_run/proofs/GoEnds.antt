-- How a turn of a run that passes over refused messages ends: the input ends, or a message is
-- refused, and passed over or not.
use Rattle.std.proofs.Common.{◌≡◌, ℕ, ◌+◌, ◌*◌, ◌-◌, ◌||◌, ◌<◌, ◌≤◌, List, [], ◌∷◌, ◌++◌, Bool, true, false, ◌⊎◌, is_some, Option, None, Some, Result, Ok, Err, drop, take, length, refl, sym, ap, ◌∙◌, subst, arith, inl, inr, append_assoc, append-nil, length-append}
use Rattle.std.proofs.Math.Path.{transport}
use Rattle.std.proofs.Math.Seq.{drop-append_seam}
use Rattle.std.specs.Option.{is_none}
use Rattle.std.specs.Io.KnownBytes.{IsAtEnd}
use Rattle.std.proofs.KnownBytes.{Consumes-trans}
use Rattle.std.proofs.lemmas.Bool.{cases_lt, false≢true}
use Rattle.dbus_value_model.specs.declared.fault.Fault.{Fault}
use Rattle.dbus_value_model.specs.declared.limits.Limits.{Limits}
use Rattle.dbus_header.specs.MessageOutcomes.{IsPartial, IsRefused}
use Rattle.dbus_header.proofs.OutcomeLaws.{nothing_partial, refused_for_good}
use Rattle.dbus_device.specs.Device.{one_more}
use Rattle.dbus_device.specs.Packets.{Packets}
use Rattle.dbus_device.specs.declared.packet.Packet.{Packet}
use Rattle.dbus_resync.specs.declared.found.Found.{Found}
use Rattle.dbus_resync.specs.declared.found.Found.TheVariants.{At, Nowhere, Spent}
use Rattle.dbus_resync.specs.declared.found.Searched.{Searched}
use Rattle.dbus_stream.specs.Cut.{CutOutcome, Ended, Unfinished, Refused, IsOutcome}
use Rattle.dbus_stream.specs.CutEnds.{fault_at_end, truncated}
use Rattle.dbus_stream.specs.GoingOn.{FindsIn, IsFoundIn, IsMet, IsSettled, ReadsToGoOn, Resyncs, StaysThere, ahead_of, checked, counted as count_looked, effort_in, effort_of}
use Rattle.dbus_stream.specs.Gathering.{gathering, under_way}
use Rattle.dbus_stream.specs.Lasting.{is_truncated}
use Rattle.dbus_stream.specs.Next.{DeviceCounts, IsCutShort}
use Rattle.dbus_stream.specs.Packed.{number_of as packed_number}
use Rattle.dbus_stream.specs.Passing.{IsRefusal, PassAnswers, Passing, ReadsOn}
use Rattle.dbus_stream.specs.PassingPackets.{DropsAll, IsBeforeOther, PacketAnswers, PassesPacket, ReadsOnward}
use Rattle.dbus_stream.specs.RawReading.{done_of, is_ended, kept, limits_of, looked_of, most_reads_of, read_of, reads_of, source_of, stopped_of}
use Rattle.dbus_stream.specs.Reading.{part_of}
use Rattle.dbus_stream.specs.StatedSizes.{StatesNone, StatesSize, WantsMore}
use Rattle.dbus_stream.specs.declared.passed.Passed.{Passed}
use Rattle.dbus_stream.specs.declared.passed.Passed.TheVariants.{Over, CutOff, Not}
use Rattle.dbus_stream.specs.declared.raw_reader.RawReader.{RawReader}
use Rattle.dbus_stream.specs.declared.read_fault.ReadFault.{ReadFault}
use Rattle.dbus_stream.specs.declared.read_fault.ReadFault.TheVariants as read
use Rattle.dbus_stream.proofs.FaultPackets.{refused_later}
use Rattle.dbus_stream.proofs.MetSteps.{settled_or}
use Rattle.dbus_stream.proofs.SizeSteps.{size_once, sizes_tell}
use Rattle.cli_options.specs.declared.resync.Resync.{Resync}
use Rattle.cli_options.specs.declared.resync.Resync.TheVariants.{Off, Within as Sought}
use Rattle.cli_report.specs.FaultFronts.{IsFaultFront}
use Rattle.cli_report.proofs.FaultFronts.{IsShut, front_more}
use Rattle.cli_run.specs.Going.{IsAllOf, IsSought, cause_of, AreTold, IsTold, IsToldRefused, cut_tally, passed_count, passed_sizes, tally_with}
use Rattle.cli_run.specs.Inputs.{AreInPacket, BeginNowhere, BeginWithParts, By, GoesPast, InPacket, IsCutOff, IsCutUnpassed, IsFaultOf, IsInOther, IsLast, IsPart, IsPassedBy, IsLarger, IsTellable, IsUnpassed, Part, PassedOver, PastWindow, Placed, ResumeIn, Resumed, Seek, Stated, WantsMoreBy, is_there, is_to_end, looked_for, looked_in, reach_end, seek_of, sizes_of}
use Rattle.cli_run.specs.Needed.{WantToSee, ahead_by}
use Rattle.cli_run.specs.Onward.{HasKnownPackets, HasRead, stop_of}
use Rattle.cli_run.specs.PassingOn.{BySize, PassesBy, PassesInPacket, PassesLarger, PassesOn, ToNext, ToPacket, Way, way_of}
use Rattle.cli_run.specs.Refusals.{IsRefusedIn, number_of}
use Rattle.cli_run.specs.Visiting.{AddsUp, Tells}
use Rattle.cli_report.specs.declared.telling.RefusedMessage.{RefusedMessage}
use Rattle.cli_report.specs.declared.ending.Cause.{Cause}
use Rattle.cli_report.specs.declared.ending.Cause.TheVariants.{Memory, ReadFailed, TooManyReads}
use Rattle.cli_run.specs.declared.counted.Counted.{Counted}
use Rattle.cli_run.specs.declared.tally.Tally.{Tally}
use Rattle.cli_run.specs.declared.visitor.RunStop.{RunStop}
use Rattle.cli_run.specs.declared.visitor.RunStop.TheVariants.{Cause as ByCause, Untold}
use Rattle.cli_run.proofs.NeededSteps.{reads_if, reads_looking, reads_sized, reads_then, wanted_more, wanted_past}
use Rattle.cli_run.proofs.FrontSteps.{HaveSameFronts, fronts_more, fronts_own, in_packet_both, refused_as, told_as, unshown_front}
use Rattle.cli_run.proofs.KnownPackets.{same_number}
use Rattle.cli_run.proofs.PartLaws.{StayNowhere, larger_more, looked-both, nowhere_more, part_some, parts_more, placed_past, sizes-both, passed-both, passed_sizes-both}
use Rattle.cli_run.proofs.ReadSteps.{read_none, read_on}
use Rattle.cli_run.proofs.Ways.{way_cut, way_next, way_packet, way_size}
use Rattle.cli_run.proofs.GoSteps.{fresh, Begun, Fills, HasCovered, HasEnded, HasGone, HasReached, MoreWanted, ReadsFor, Unshown, Wants, reads_on, read_parts, refused_is, none_is, covers_read, covers, packets_of, Took, Within, Through, Stopped, More, stops_plain, all_called}

-- one of two that are not both
or_last : (a : Bool) → a || false ≡ true → a ≡ true
or_last true e = refl
or_last false e = e

module _ {R A S : Type 0} {takes : S → S → List Placed → (told : List ℕ) → Type 0} {leaves : S → S → List Placed → (told : List ℕ) → RunStop → Type 0} {settled : S → Type 0} {full : S → Bool} (laws : AddsUp takes leaves settled full)
    {run : Begun R A S} {mid : RawReader R A} {counted : Counted} {tally : Tally} {s1 : S} (h : HasReached run takes full mid counted tally s1) where
  abbrev items : List Placed
  items = h.gone.messages

  -- it ends after a message
  pub finished : counted.fault ≡ None → HasEnded run takes full mid tally None s1
  finished none =
      let g = h.gone in
      let no_fault : None ≡ fault_at_end (kept mid) h.outcome = sym none ∙ h.fault_is in
      let ended : h.outcome ≡ Ended = none_is (kept mid) h.outcome no_fault in
      let at_end : IsAtEnd (run.left (source_of mid)) = g.covered.at_end (h.ended (λ f is. absurd (let both = sym ended ∙ is in cc))) in
      record {
        told = g.told;
        text = [];
        through = record {
          parts = g.parts;
          rest = kept mid;
          covers = covers run mid g.parts (kept mid) g.told g.covered;
          cut = None;
          tally_is = g.tally_is;
          tells = record { outcome = h.outcome; outcome_is = h.outcome_is; fault_is = no_fault; told = refl };
          last = subst (λ o. IsLast (packets_of run) None run.settings run.settings.limits (sizes_of g.parts) (looked_in g.parts) (kept mid) o (IsAtEnd (run.left (source_of mid)))) (sym ended) at_end;
          read_failed = g.failed;
        };
        messages = items;
        placed = g.placed;
        wanted = g.wanted;
        unfilled = h.unfilled;
        came = subst (λ (l : List ℕ). takes run.s0 s1 items l) (sym (append-nil g.told)) g.came;
        needed = λ _. g.needed;
      }

  -- ---- the fault is told

  module _ {fault : Fault} (faulty : counted.fault ≡ Some fault) (packet : Option ℕ) (packet_is : packet ≡ number_of (run.packet (source_of mid))) (front : List ℕ) (is_front : IsFaultFront run.settings.limits (kept mid) front) where
    -- this is told of it
    abbrev Due : List ℕ → Type 0
    Due text = IsTold run.settings (record { number = counted.count + 1; offset = counted.size; fault = fault; packet = packet }) (kept mid) text

    -- its packet, by its place among the parts
    refused_at : IsRefusedIn (packets_of run) run.settings.limits (sizes_of h.gone.parts) (kept mid) packet
    refused_at = transport (λ i. IsRefusedIn (packets_of run) run.settings.limits (h.gone.done i) (kept mid) (sym packet_is i)) (h.refused_in fault faulty)

    -- by its place among the parts
    told_at : (n : ℕ) (text : List ℕ) → n ≡ length h.gone.parts + 1 → Due text → IsToldRefused (packets_of run) run.settings n (sizes_of h.gone.parts) (kept mid) fault text
    told_at n text e told =
        let number : counted.count + 1 ≡ n = omega (arith, h.count_is, ap (λ (t : Tally). t.count) h.gone.tally_is, e) in
        let offset : counted.size ≡ sizes_of h.gone.parts = sym h.size_is ∙ ap (λ (t : Tally). t.size) h.gone.tally_is in (
          packet,
          refused_at,
          transport (λ i. IsTold run.settings (record { number = number i; offset = offset i; fault = fault; packet = packet }) (kept mid) text) told,
        )

    fault_last : Some fault ≡ fault_at_end (kept mid) h.outcome
    fault_last = sym faulty ∙ h.fault_is

    stopped_last : stopped_of mid ≡ Some (read.Format fault)
    stopped_last = h.stopped ∙ ap stop_of faulty

    -- the same of the rest, of which the message may have more bytes
    told_rest : (rest text : List ℕ) → HaveSameFronts run.settings.limits (kept mid) rest → Due text → IsToldRefused (packets_of run) run.settings (length h.gone.parts + 1) (sizes_of h.gone.parts) rest fault text
    told_rest rest text fronts told = told_as (packets_of run) run.settings (length h.gone.parts + 1) (sizes_of h.gone.parts) (kept mid) rest fault text fronts (told_at (length h.gone.parts + 1) text refl told)

    -- the message that is refused, and how it is passed over
    abbrev refusal : RefusedMessage
    refusal = record { number = counted.count + 1; offset = counted.size; fault = fault; packet = packet }

    abbrev limits_are : limits_of mid ≡ run.settings.limits
    limits_are = h.gone.covered.limits_are

    abbrev way : Way
    way = way_of refusal run.settings.resync

    -- how messages are looked for behind it
    abbrev effort : (window : ℕ) → ℕ
    effort window = effort_of window (sizes_of h.gone.parts) (looked_in h.gone.parts + fault.at)

    abbrev seek_by : Resync → Seek
    seek_by r = seek_of r (sizes_of h.gone.parts) (looked_in h.gone.parts + fault.at)

    abbrev seek : Seek
    seek = seek_by run.settings.resync

    effort_is : (window : ℕ) → effort_in window mid ≡ effort window
    effort_is window = λ i. effort_of window (h.gone.done i) (h.gone.looked i + checked (stopped_last i))

    -- it could not be passed over by a size, since it states none
    abbrev IsUnsized : Type 0
    IsUnsized = (way ≡ BySize) × ((other : Fault) → IsRefusal (stopped_of mid) other → StatesNone (limits_of mid) (kept mid))

    -- its packet, or that it is of none
    refused_by : (by : Option ℕ) → packet ≡ by → IsRefusedIn (packets_of run) run.settings.limits (sizes_of h.gone.parts) (kept mid) by
    refused_by by is = subst (λ (p : Option ℕ). IsRefusedIn (packets_of run) run.settings.limits (sizes_of h.gone.parts) (kept mid) p) is refused_at

    -- why it was not passed over then
    cut_unsized : (at_end : Type 0) (r : Resync) → run.settings.resync ≡ r → IsUnsized → IsCutUnpassed (packets_of run) (seek_by r) run.settings.limits (sizes_of h.gone.parts) (kept mid) at_end
    cut_unsized at_end Off is unsized = tt
    cut_unsized at_end (Sought w) is unsized = (packet, refused_at, λ none. absurd (way_cut packet (is_truncated fault.reason) w (subst (λ (r : Resync). way_of refusal r ≡ BySize) is unsized.0) none))

    unsized_is : (at_end : Type 0) → IsUnsized → is_truncated fault.reason ≡ false → IsUnpassed (packets_of run) seek run.settings.limits (sizes_of h.gone.parts) (kept mid) at_end
    unsized_is at_end unsized whole =
        let by = way_size packet (is_truncated fault.reason) run.settings.resync unsized.0 whole in
        subst (λ (r : Resync). IsUnpassed (packets_of run) (seek_by r) run.settings.limits (sizes_of h.gone.parts) (kept mid) at_end) (sym by.1)
        (refused_by None by.0, subst (λ (l : Limits). StatesNone l (kept mid)) limits_are (unsized.1 fault (stopped_last, whole)))

    -- why nothing follows if nothing was passed over
    last_is : (outcome : CutOutcome) → Some fault ≡ fault_at_end (kept mid) outcome → (((f : Fault) → outcome ≡ Refused f → ⊥) → IsAtEnd (run.left (source_of mid))) → (run.settings.keeps_going ≡ true → IsUnsized)
        → IsLast (packets_of run) None run.settings run.settings.limits (sizes_of h.gone.parts) (looked_in h.gone.parts) (kept mid) outcome (IsAtEnd (run.left (source_of mid)))
    last_is (Refused other) e at_end none = λ goes whole.
        let same : fault ≡ other = cc in
        subst (λ (f : Fault). IsUnpassed (packets_of run) (seek_of run.settings.resync (sizes_of h.gone.parts) (looked_in h.gone.parts + f.at)) run.settings.limits (sizes_of h.gone.parts) (kept mid) (IsAtEnd (run.left (source_of mid)))) same
        (unsized_is (IsAtEnd (run.left (source_of mid))) (none goes) (subst (λ (f : Fault). is_truncated f.reason ≡ false) (sym same) whole))
    last_is Unfinished e at_end none =
        let same : fault ≡ truncated (kept mid) = cc in
        let at : fault.at ≡ length (kept mid) = ap (λ (f : Fault). f.at) same in (
          at_end (λ f is. absurd cc),
          λ goes.
              subst (λ (n : ℕ). IsCutUnpassed (packets_of run) (seek_of run.settings.resync (sizes_of h.gone.parts) (looked_in h.gone.parts + n)) run.settings.limits (sizes_of h.gone.parts) (kept mid) (IsAtEnd (run.left (source_of mid)))) at
              (cut_unsized (IsAtEnd (run.left (source_of mid))) run.settings.resync refl (none goes)),
        )
    last_is Ended e at_end none = absurd cc

    -- the fault shows
    tellable : (outcome : CutOutcome) → Some fault ≡ fault_at_end (kept mid) outcome → (((f : Fault) → outcome ≡ Refused f → ⊥) → IsAtEnd (run.left (source_of mid))) → IsTellable outcome (IsAtEnd (run.left (source_of mid)))
    tellable (Refused other) e at_end = tt
    tellable Unfinished e at_end = at_end (λ f is. absurd cc)
    tellable Ended e at_end = absurd cc

    pub not_told : settled s1 → (s2 : S) (stop : RunStop) → Tells takes leaves Due s1 s2 (Err stop) → Within run takes leaves full mid stop s2
    not_told rests s2 (ByCause Memory) same =
        let came = (laws.rests run.s0 s1 items h.gone.told h.gone.came rests).0 in
        stops_plain run takes leaves full Memory mid h.gone.parts (kept mid) h.gone.told s2 h.gone.covered items (inl refl) h.gone.failed h.gone.placed h.gone.wanted (λ never. absurd never) (subst (λ (s : S). leaves run.s0 s items h.gone.told (ByCause Memory)) (sym same) came)
    not_told rests s2 (ByCause cause) never = absurd never
    not_told rests s2 Untold half = record {
      parts = h.gone.parts;
      rest = kept mid;
      told = h.gone.told;
      covers = covers run mid h.gone.parts (kept mid) h.gone.told h.gone.covered;
      more = half.0;
      all = inl (
        Some fault,
        half.0,
        record { outcome = h.outcome; outcome_is = h.outcome_is; fault_is = fault_last; told = told_at (length h.gone.parts + 1) half.0 refl half.1 },
        inl (tellable h.outcome fault_last (λ not. h.gone.covered.at_end (h.ended not)), refl),
      );
      caused = h.gone.failed;
      messages = items;
      placed = h.gone.placed;
      wanted = h.gone.wanted;
      unfilled = λ never. absurd never;
      came = subst (λ (l : List Placed). leaves run.s0 s2 l (h.gone.told ++ half.0) Untold) (append-nil items) (laws.leaves_after run.s0 s1 s2 items [] h.gone.told half.0 Untold h.gone.came half.2);
    }

    -- ---- and the message is passed over, or not

    met : (other : Fault) → IsRefusal (stopped_of mid) other → IsRefused run.settings.limits (kept mid) fault
    met other refusal =
        let same : other ≡ fault = (let both = sym refusal.0 ∙ stopped_last in cc) in
        refused_is run.settings.limits (kept mid) fault h.outcome h.outcome_is fault_last (subst (λ (f : Fault). is_truncated f.reason ≡ false) same refusal.1)

    -- what is refused has bytes
    some_kept : IsRefused run.settings.limits (kept mid) fault → 0 < length (kept mid)
    some_kept refused = refused_later run.settings.limits 0 (kept mid) fault (nothing_partial run.settings.limits) refused

    -- it is refused, or the input ends within it
    either : (outcome : CutOutcome) → IsOutcome run.settings.limits (kept mid) outcome → Some fault ≡ fault_at_end (kept mid) outcome → (((f : Fault) → outcome ≡ Refused f → ⊥) → is_ended mid ≡ true)
        → IsRefused run.settings.limits (kept mid) fault ⊎ ((is_ended mid ≡ true) × IsCutShort run.settings.limits (kept mid) fault)
    either Ended o e ended = absurd cc
    either Unfinished o e ended = let same : fault ≡ truncated (kept mid) = cc in inr (ended (λ f is. absurd cc), (o.0, o.1, same))
    either (Refused other) o e ended = let same : other ≡ fault = cc in inl (subst (λ (f : Fault). IsRefused run.settings.limits (kept mid) f) same o)

    -- it is refused, or nothing comes after it
    shut : (more : List ℕ) → (is_ended mid ≡ true → more ≡ []) → IsShut run.settings.limits (kept mid) more
    shut more none = elim (either h.outcome h.outcome_is fault_last h.ended) [ inl refused ↦ inl (fault, refused) | inr cut ↦ inr (none cut.0) ]

    -- the packet of its fault, by the bytes that show that
    front_by : (by : Option ℕ) → packet ≡ by → IsRefusedIn (packets_of run) run.settings.limits (sizes_of h.gone.parts) front by
    front_by by is = refused_as run.settings.limits (kept mid) front (fronts_own run.settings.limits (kept mid) front is_front) (packets_of run) (sizes_of h.gone.parts) by (refused_by by is)

    -- a read is made to pass it over only if so many bytes came: no more than its size, or fewer than
    -- twice as many as are looked ahead at
    abbrev Before : By → (size came : ℕ) → Type 0
    Before by size came =
        (length (kept mid) + came ≤ size) ⊎ (length (kept mid) + came < 2 * ahead_by by)

    -- so they are wanted for it
    wanted_for : (by : By) (size came : ℕ) → Unshown run h.gone.parts (kept mid) came
        ⊎ (came < sizes_of h.gone.parts + 2 * ahead_by by)
        → Wants run (h.gone.parts ++ PassedOver front fault by size ∷ []) came
    wanted_for by size came w =
        wanted_past run.settings.limits 0 h.gone.parts front fault by size came
        (sizes_of h.gone.parts) (omega arith) (elim w [
          | inl unshown ↦ inl (unshown_front run.settings.limits (sizes_of h.gone.parts) (kept mid) front came is_front unshown)
          | inr few ↦ inr few
        ])

    -- or none came of what follows it
    unshown_none : (new : RawReader R A) (parts : List Part) (came : ℕ) → came ≤ sizes_of parts
        → Unshown run parts (kept new) came
    unshown_none new parts came few =
        let none : came - sizes_of parts ≡ 0 = omega (arith, few) in
        let limits = run.settings.limits in (
          omega (arith, few),
          subst (λ (n : ℕ). IsPartial limits (take n (kept new))) (sym none) (nothing_partial limits),
        )

    module _ (new : RawReader R A) where
      -- what is known of what it dropped
      abbrev IsInput : Result Passed ReadFault → Type 0
      IsInput res = way ≡ ToPacket → PassesInPacket run.packets run.packet mid new res

      abbrev PassedBy : Result Passed ReadFault → Type 0
      PassedBy res = PassesOn run.left run.calls run.packet mid new way res

      -- it was passed over
      record IsPassedOver (rest : List ℕ) : Type 0 where
        by : By
        size : ℕ
        part : IsPart run.settings.limits rest (PassedOver front fault by size)
        passed : IsPassedBy (packets_of run) seek run.settings.limits (sizes_of h.gone.parts) front by size
        kept_is : kept new ≡ drop size rest
        done_is : done_of new ≡ done_of mid + size
        looked_is : looked_of new ≡ looked_for by fault.at (sizes_of h.gone.parts) (looked_in h.gone.parts)
        stopped_is : stopped_of new ≡ None
        ends : is_to_end by ≡ true → is_ended new ≡ true
        needed : ReadsFor run (Before by size) mid new

      -- not all of it came
      abbrev IsPast : List ℕ → Type 0
      IsPast rest = IsRefused run.settings.limits (kept mid) fault × GoesPast (packets_of run) seek run.settings.limits (sizes_of h.gone.parts) rest packet

      -- it was looked for where messages begin again
      abbrev IsSeeking : Type 0
      IsSeeking = (window : ℕ) × (packet ≡ None) × (run.settings.resync ≡ Sought window)

      abbrev IsLost : List ℕ → Type 0
      IsLost rest = (window : ℕ) × (packet ≡ None) × (run.settings.resync ≡ Sought window) × BeginNowhere run.settings.limits window (effort window) rest (is_ended new ≡ true)
          × (is_truncated fault.reason ≡ false → IsLarger run.settings.limits window rest → ⊥)

      abbrev StatesNoSize : List ℕ → Type 0
      StatesNoSize rest = IsRefused run.settings.limits (kept mid) fault × (packet ≡ None) × (run.settings.resync ≡ Off) × StatesNone run.settings.limits rest

      -- what came of it
      abbrev CameTo : (rest : List ℕ) → Result Passed ReadFault → Type 0
      CameTo rest (Ok Over) = IsPassedOver rest
      CameTo rest (Ok CutOff) = IsPast rest × (is_ended new ≡ true) × (done_of new ≡ done_of mid + length rest)
      CameTo rest (Ok Not) = StatesNoSize rest ⊎ IsLost rest
      CameTo rest (Err read.Device) = IsPast rest ⊎ IsSeeking
      CameTo rest (Err read.TooManyReads) = (IsPast rest ⊎ IsSeeking) × (reads_of new ≡ most_reads_of new)
      CameTo rest (Err read.Memory) = IsSeeking
      CameTo rest (Err (read.Format f)) = IsSeeking

      abbrev HasReadTo : List ℕ → Type 0
      HasReadTo rest = HasRead gathering run.left run.calls run.settings.limits (kept mid) mid.reader new.reader [] rest

      record HasOnward (res : Result Passed ReadFault) : Type 0 where
        rest : List ℕ
        reads : HasReadTo rest
        came_to : CameTo rest res

      -- more bytes of it came, or nothing
      module _ (more : List ℕ) (none : is_ended mid ≡ true → more ≡ []) where
        fronts_to : HaveSameFronts run.settings.limits (kept mid) (kept mid ++ more)
        fronts_to = fronts_more run.settings.limits (kept mid) more (shut more none)

        front_to : IsFaultFront run.settings.limits (kept mid ++ more) front
        front_to = fronts_to.0 front is_front

      refused_to : (more : List ℕ) → IsRefused run.settings.limits (kept mid) fault → IsRefused run.settings.limits (kept mid ++ more) fault
      refused_to more refused = refused_for_good run.settings.limits (kept mid) more fault refused

      -- by the size that it states: no byte of it was dropped before
      module _ (sized : way ≡ BySize) where
        whole_other : (other : Fault) → IsRefusal (stopped_of mid) other → is_truncated fault.reason ≡ false
        whole_other other refused =
            let same : other ≡ fault = (let both = sym refused.0 ∙ stopped_last in cc) in
            subst (λ (f : Fault). is_truncated f.reason ≡ false) same refused.1

        way_plain : (other : Fault) → IsRefusal (stopped_of mid) other → (packet ≡ None) × (run.settings.resync ≡ Off)
        way_plain other refused = way_size packet (is_truncated fault.reason) run.settings.resync sized (whole_other other refused)

        past_plain : (rest : List ℕ) (other : Fault) → IsRefusal (stopped_of mid) other → WantsMore (limits_of mid) rest → IsPast rest
        past_plain rest other refused wants =
            let plain = way_plain other refused in (
              met other refused,
              subst (λ (p : Option ℕ). GoesPast (packets_of run) seek run.settings.limits (sizes_of h.gone.parts) rest p) (sym plain.0)
                  (subst (λ (r : Resync). WantsMoreBy (seek_by r) run.settings.limits rest) (sym plain.1) (subst (λ (l : Limits). WantsMore l rest) limits_are wants)),
            )

        came_by_size : looked_of new ≡ looked_of mid → (r : ReadsOn [] run.left run.calls mid new) (other : Fault) → IsRefusal (stopped_of mid) other → (res : Result Passed ReadFault) → PassAnswers [] (kept mid ++ r.bytes) mid new res → CameTo (kept mid ++ r.bytes) res
        came_by_size looked r other refused (Ok Over) p =
            let more = r.bytes in
            let done = p.done in
            let plain = way_plain other refused in
            record {
              by = Stated;
              size = p.size;
              part = (front_to more (λ end. (r.settled end).0), refused_to more (met other refused), (subst (λ (l : Limits). StatesSize l (kept mid ++ more) p.size) limits_are p.states, p.there));
              passed = (ap seek_by plain.1, front_by None plain.0);
              kept_is = p.kept;
              done_is = omega (arith, done);
              looked_is = looked ∙ h.gone.looked;
              stopped_is = p.stopped;
              ends = λ e. absurd (false≢true e);
              needed = reads_sized gathering run.left run.calls (limits_of mid) (kept mid) mid.reader
                  new.reader r p.size p.states (Before Stated p.size) (λ came less. inl (omega (arith, less)));
            }
        came_by_size looked r other refused (Ok CutOff) p = let done = p.1.done in (past_plain (kept mid ++ r.bytes) other refused p.0, p.2, omega (arith, done))
        came_by_size looked r other refused (Ok Not) p =
            let plain = way_plain other refused in
            inl (met other refused, plain.0, plain.1, subst (λ (l : Limits). StatesNone l (kept mid ++ r.bytes)) limits_are p.0)
        came_by_size looked r other refused (Err read.Device) p = inl (past_plain (kept mid ++ r.bytes) other refused p.0)
        came_by_size looked r other refused (Err read.TooManyReads) p = (inl (past_plain (kept mid ++ r.bytes) other refused p.0), p.2)
        came_by_size looked r other refused res p = absurd p

        by_size : looked_of new ≡ looked_of mid → (res : Result Passed ReadFault) → Passing run.left run.calls mid new res → HasOnward res ⊎ ((res ≡ Ok Not) × (new ≡ mid) × IsUnsized)
        by_size looked res passing = elim passing [
          | inl p ↦ (
              let refused = met p.0 p.1 in
              let all = p.2 [] (fresh mid (some_kept refused)) in
              inl (record {
                rest = kept mid ++ all.0.bytes;
                reads = read_on gathering run.left run.calls run.settings.limits (kept mid) (λ before. WantsMore (limits_of mid) (kept mid ++ before)) mid.reader mid.reader new.reader [] (kept mid)
                    (read_none gathering run.left run.calls run.settings.limits (kept mid) mid.reader limits_are) all.0;
                came_to = came_by_size looked all.0 p.0 p.1 res all.1;
              })
              )
          | inr none ↦ inr (
            none.1,
            none.2,
            (sized, λ other refused. none.0 other [] refused (fresh mid (some_kept (met other refused)))),
          )
        ]

      -- up to where messages begin again
      module _ (window : ℕ) (seeks : way ≡ ToNext window) where
        way_seeks : (packet ≡ None) × (run.settings.resync ≡ Sought window)
        way_seeks = way_next packet (is_truncated fault.reason) run.settings.resync window seeks

        -- for what it was refused, and whether the input ends in the window
        fault_by : (more : List ℕ) → (is_ended mid ≡ true → more ≡ []) → (is_ended mid ≡ true → is_ended new ≡ true) → IsSettled true run.settings.limits window (kept mid ++ more) ⊎ (is_ended new ≡ true)
            → IsSettled true run.settings.limits window (kept mid ++ more) ⊎ (IsSettled true run.settings.limits window (kept mid ++ more) → ⊥) → (end : Bool) × ((n : ℕ) → IsFaultOf run.settings.limits (kept mid ++ more) fault (Resumed window (effort window) n end)) × (end ≡ false → IsSettled true run.settings.limits window (kept mid ++ more)) × (end ≡ true → is_ended new ≡ true)
        fault_by more none still all settled_or_not = elim (either h.outcome h.outcome_is fault_last h.ended) [
          | inl refused ↦ elim settled_or_not [
            | inl settled ↦ (false, λ n. refused_to more refused, (λ _. settled), λ e. absurd (false≢true e))
            | inr open_ ↦ (true, λ n. inl (refused_to more refused, open_), (λ e. absurd (false≢true (sym e))), λ _. elim all [ inl settled ↦ absurd (open_ settled) | inr end ↦ end ])
          ]
          | inr cut ↦ (
              let all_there : kept mid ≡ kept mid ++ more = sym (append-nil (kept mid)) ∙ ap (λ (l : List ℕ). kept mid ++ l) (sym (none cut.0)) in
              (true, λ n. inr (subst (λ (l : List ℕ). IsCutShort run.settings.limits l fault) all_there cut.1), (λ e. absurd (false≢true (sym e))), λ _. still cut.0)
              )
        ]

        -- what counts as looked at
        counts_is : (n : ℕ) → looked_of new ≡ count_looked window (done_of mid) (looked_of mid) (checked (stopped_of mid) + n) → looked_of new ≡ count_looked window (sizes_of h.gone.parts) (looked_in h.gone.parts) (fault.at + n)
        counts_is n counts = counts ∙ (λ i. count_looked window (h.gone.done i) (h.gone.looked i) (checked (stopped_last i) + n))

        resumes_is : (more : List ℕ) (s : Searched) → IsFoundIn true (limits_of mid) window (effort_in window mid) (is_ended new) (kept mid ++ more) s → ResumeIn run.settings.limits window (effort window) (kept mid ++ more) s
        resumes_is more s f = transport (λ i. ResumeIn (limits_are i) window (effort_is window i) (kept mid ++ more) s) f.1

        settled_is : (more : List ℕ) → IsSettled true (limits_of mid) window (kept mid ++ more) ⊎ (is_ended new ≡ true) → IsSettled true run.settings.limits window (kept mid ++ more) ⊎ (is_ended new ≡ true)
        settled_is more f = subst (λ (l : Limits). IsSettled true l window (kept mid ++ more) ⊎ (is_ended new ≡ true)) limits_are f

        nowhere_is : (more : List ℕ) (found : Found) → is_there found ≡ false → FindsIn (kept mid ++ more) mid new true window found
            → (b : BeginNowhere run.settings.limits window (effort window) (kept mid ++ more) (is_ended new ≡ true)) × (looked_of new ≡ count_looked window (sizes_of h.gone.parts) (looked_in h.gone.parts) (fault.at + b.searched.looked))
        nowhere_is more found none f = (
          record {
            searched = record { found = found; looked = f.looked };
            nowhere = none;
            resumes = resumes_is more (record { found = found; looked = f.looked }) f.is_found;
            all = settled_is more f.is_found.0;
          },
          counts_is f.looked f.counts,
        )

        -- it is gone on there
        came_there : (r : ReadsToGoOn true window run.left run.calls mid new) (size : ℕ) → Resyncs (kept mid ++ r.bytes) mid new window (Ok (At size)) → CameTo (kept mid ++ r.bytes) (Ok Over)
        came_there r size g =
            let more = r.bytes in
            let n = g.0.looked in
            let found = resumes_is more (record { found = At size; looked = n }) g.0.is_found in
            let f = fault_by more (λ end. (r.settled end).0) (λ end. (r.settled end).2) (settled_is more g.0.is_found.0) (settled_or run.settings.limits window (effort window) (kept mid ++ more) (record { found = At size; looked = n }) size found refl) in
            record {
              by = Resumed window (effort window) n f.0;
              size = size;
              part = (front_to more (λ end. (r.settled end).0), f.1 n, (found, f.2));
              passed = (ap seek_by way_seeks.1, front_by None way_seeks.0);
              kept_is = g.1.kept;
              done_is = g.1.done;
              looked_is = counts_is n g.0.counts;
              stopped_is = g.1.stopped;
              ends = f.3;
              needed = reads_looking run.left run.calls window mid new r
                  (Before (Resumed window (effort window) n f.0) size) (λ came few. inr few);
            }

        -- or not, since it could not be read so far
        came_failed : (more : List ℕ) (broken : ReadFault) → Resyncs (kept mid ++ more) mid new window (Err broken) → CameTo (kept mid ++ more) (Err broken)
        came_failed more read.Memory g = (window, way_seeks.0, way_seeks.1)
        came_failed more (read.Format f) g = (window, way_seeks.0, way_seeks.1)
        came_failed more read.Device g = inr (window, way_seeks.0, way_seeks.1)
        came_failed more read.TooManyReads g = (inr (window, way_seeks.0, way_seeks.1), g.1)

        reads_ahead : (r : ReadsToGoOn true window run.left run.calls mid new) → HasReadTo (kept mid ++ r.bytes)
        reads_ahead r =
            read_on gathering run.left run.calls run.settings.limits (kept mid) (λ before. (length (kept mid) < ahead_of window) × (length (kept mid ++ before) < 2 * ahead_of window) × (IsMet true (limits_of mid) (take window (kept mid ++ before)) → ⊥)) mid.reader mid.reader new.reader [] (kept mid)
            (read_none gathering run.left run.calls run.settings.limits (kept mid) mid.reader limits_are) r

        went : (r : ReadsToGoOn true window run.left run.calls mid new) (res : Result Passed ReadFault) → CameTo (kept mid ++ r.bytes) res → HasOnward res
        went r res came = record { rest = kept mid ++ r.bytes; reads = reads_ahead r; came_to = came }

      -- in a capture up to the next packet
      module _ (known : HasKnownPackets run.packets run.packet mid (packets_of run)) (packed : way ≡ ToPacket) (looked : looked_of new ≡ looked_of mid) where
        in_known : (all : Option Packets) → HasKnownPackets run.packets run.packet mid all → (number : ℕ) → packed_number (run.packet (source_of mid)) ≡ Some number → (res : Result Passed ReadFault) → PassesInPacket run.packets run.packet mid new res
            → AreInPacket all number (read_of mid) (done_of new) × (res ≡ Ok Over → IsInOther all number (done_of new))
        in_known None has number is res p = (tt, λ _. tt)
        in_known (Some all) has number is res p = let both = p all number has is in (both.0, λ over. subst (λ (r : Result Passed ReadFault). IsBeforeOther all number (done_of new) r) over both.1)

        read_there : read_of mid ≡ sizes_of h.gone.parts + length (kept mid)
        read_there =
            let all = length-append (under_way mid.reader.taker.whole mid.reader.taker.held) (part_of mid.reader) in
            omega (arith, all, mid.held_counted, h.gone.done)

        refused_packed : IsRefused run.settings.limits (kept mid) fault
        refused_packed = refused_is run.settings.limits (kept mid) fault h.outcome h.outcome_is fault_last (way_packet packet (is_truncated fault.reason) run.settings.resync packed).1

        module _ (number : ℕ) (is : packed_number (run.packet (source_of mid)) ≡ Some number) (by : packet ≡ Some number) (r : ReadsOnward run.left run.calls run.packet mid new) where
          abbrev all_there : List ℕ
          all_there = kept mid ++ r.bytes

          -- what is behind the fault of what was kept, and then this
          from_front : (f : List ℕ) (end : ℕ) → IsFaultFront run.settings.limits (kept mid) f → AreInPacket (packets_of run) number (sizes_of h.gone.parts + length (kept mid)) end → AreInPacket (packets_of run) number (sizes_of h.gone.parts + length f) end
          from_front f end p more =
              let there = transport (λ i. AreInPacket (packets_of run) number (h.gone.done i + length f) (h.gone.done i + length (kept mid))) (h.behind fault faulty number (same_number (run.packet (source_of mid)) ∙ is) f p) in
              in_packet_both (packets_of run) number (sizes_of h.gone.parts + length f) (sizes_of h.gone.parts + length (kept mid)) end there more

          to_end : DropsAll run.left run.calls run.packet mid new r → (res : Result Passed ReadFault) → PassesInPacket run.packets run.packet mid new res → IsPast all_there × (done_of new ≡ done_of mid + length all_there)
          to_end d res p =
              let done = d.done in
              let long : done_of new ≡ done_of mid + length all_there = omega (arith, done, length-append (kept mid) r.bytes) in
              let place : done_of new ≡ sizes_of h.gone.parts + length all_there = omega (arith, long, h.gone.done) in
              let past = transport (λ i. AreInPacket (packets_of run) number (read_there i) (place i)) (in_known (packets_of run) known number is res p).0 in
              let of_rest = λ (f : List ℕ) (p : IsFaultFront run.settings.limits all_there f).
              from_front f (sizes_of h.gone.parts + length all_there) ((fronts_more run.settings.limits (kept mid) r.bytes (inl (fault, refused_packed))).1 f p) past in
              ((refused_packed, subst (λ (p : Option ℕ). GoesPast (packets_of run) seek run.settings.limits (sizes_of h.gone.parts) all_there p) (sym by) of_rest), long)

          came_by_packet : (res : Result Passed ReadFault) → PassesInPacket run.packets run.packet mid new res → PacketAnswers run.left run.calls run.packet mid new number r res → CameTo all_there res
          came_by_packet (Ok Over) p g =
              let size = length (kept mid ++ r.before) in
              let done = g.done in
              let some = g.some in
              let joined = ap length r.joined in
              let both = length-append (kept mid) r.before in
              let all = length-append (kept mid) r.bytes in
              let two = length-append r.before r.last in
              let long : done_of new ≡ done_of mid + size = omega (arith, done, both) in
              let place : done_of new ≡ sizes_of h.gone.parts + size = omega (arith, long, h.gone.done) in
              let inside = in_known (packets_of run) known number is (Ok Over) p in
              let rest : all_there ≡ (kept mid ++ r.before) ++ r.last = ap (λ (l : List ℕ). kept mid ++ l) r.joined ∙ sym (append_assoc (kept mid) r.before r.last) in
              record {
                by = InPacket number;
                size = size;
                part = (
                  front_to r.bytes (λ end. (r.settled end).0),
                  refused_to r.bytes refused_packed,
                  (omega (arith, both, ap length is_front.prefix.1, length-append front is_front.prefix.0), omega (arith, both, all, two, joined, some)),
                );
                passed = (
                  front_by (Some number) by,
                  from_front front (sizes_of h.gone.parts + size) is_front (transport (λ i. AreInPacket (packets_of run) number (read_there i) (place i)) inside.0),
                  subst (λ (n : ℕ). IsInOther (packets_of run) number n) place (inside.1 refl),
                );
                kept_is = g.kept ∙ (sym (drop-append_seam (kept mid ++ r.before) r.last) ∙ ap (λ (l : List ℕ). drop size l) (sym rest));
                done_is = long;
                looked_is = looked ∙ h.gone.looked;
                stopped_is = g.stopped;
                ends = λ e. absurd (false≢true e);
                needed = reads_if gathering (λ before. Unit {0}) run.left run.calls mid.reader new.reader r
                    (Before (InPacket number) size) (λ _. inl (omega (arith, both)));
              }
          came_by_packet (Ok CutOff) p d = let past = to_end d.0 (Ok CutOff) p in (past.0, d.1, past.1)
          came_by_packet (Err read.Device) p d = inl (to_end d (Err read.Device) p).0
          came_by_packet (Err read.TooManyReads) p d = (inl (to_end d.0 (Err read.TooManyReads) p).0, d.1)
          came_by_packet res p d = absurd d

        by_packet : (res : Result Passed ReadFault) → PassesPacket run.left run.calls run.packet mid new res → PassesInPacket run.packets run.packet mid new res → HasOnward res
        by_packet res passing inside = elim passing [
          | inl p ↦ (
              let by : packet ≡ Some p.0 = packet_is ∙ (same_number (run.packet (source_of mid)) ∙ p.1) in
              let r = p.2 in
              record {
                rest = kept mid ++ r.bytes;
                reads = read_on gathering run.left run.calls run.settings.limits (kept mid) (λ before. Unit {0}) mid.reader mid.reader new.reader [] (kept mid)
                    (read_none gathering run.left run.calls run.settings.limits (kept mid) mid.reader limits_are) r;
                came_to = came_by_packet p.0 p.1 by r res inside p.3;
              }
              )
          | inr none ↦ absurd (let is : packet ≡ None = packet_is ∙ ap number_of none.0 in let some = (way_packet packet (is_truncated fault.reason) run.settings.resync packed).0 in false≢true (ap is_some (sym is) ∙ some))
        ]

    -- messages begin again nowhere in the window, and far is the reader that found that
    module _ (window : ℕ) (seeks : way ≡ ToNext window) (far : RawReader R A) (ahead : ReadsToGoOn true window run.left run.calls mid far) (stays : StaysThere (kept mid ++ ahead.bytes) mid far)
        (nowhere : BeginNowhere run.settings.limits window (effort window) (kept mid ++ ahead.bytes) (is_ended far ≡ true))
        (counts : looked_of far ≡ count_looked window (sizes_of h.gone.parts) (looked_in h.gone.parts) (fault.at + nowhere.searched.looked)) where
      abbrev found_none : List ℕ
      found_none = kept mid ++ ahead.bytes

      limits_far : limits_of far ≡ run.settings.limits
      limits_far = (reads_ahead far window seeks ahead).limits_are

      some_far : (other : Fault) → IsRefusal (stopped_of mid) other → 0 < length (kept far)
      some_far other refused = omega (arith, some_kept (met other refused), length-append (kept mid) ahead.bytes, ap length stays.kept)

      larger_there : IsLarger (limits_of far) window (kept far) → IsLarger run.settings.limits window found_none
      larger_there l = transport (λ i. IsLarger (limits_far i) window (stays.kept i)) l

      -- it is not passed over
      lost : (is_truncated fault.reason ≡ false → IsLarger run.settings.limits window found_none → ⊥) → HasOnward far (Ok Not)
      lost small = let by = way_seeks far window seeks in went far window seeks ahead (Ok Not) (inr (window, by.0, by.1, nowhere, small))

      -- or by its size, since that is larger
      module _ (new : RawReader R A) (larger : IsLarger run.settings.limits window found_none) (other : Fault) (refused : IsRefusal (stopped_of mid) other) (r : ReadsOn [] run.left run.calls far new) where
        abbrev more : List ℕ
        more = r.bytes

        abbrev all_read : List ℕ
        all_read = found_none ++ more

        none : is_ended far ≡ true → more ≡ []
        none end = (r.settled end).0

        -- it is refused, also with all that was read of it
        part_read : IsFaultFront run.settings.limits all_read front × IsRefused run.settings.limits all_read fault
        part_read =
            let refused_kept = met other refused in
            let joined = sym (append_assoc (kept mid) ahead.bytes more) in (
              subst (λ (l : List ℕ). IsFaultFront run.settings.limits l front) joined (front_more run.settings.limits (kept mid) (ahead.bytes ++ more) front (inl (fault, refused_kept)) is_front),
              subst (λ (l : List ℕ). IsRefused run.settings.limits l fault) joined (refused_for_good run.settings.limits (kept mid) (ahead.bytes ++ more) fault refused_kept),
            )

        nowhere_all : StayNowhere run.settings.limits window (effort window) nowhere.searched all_read
        nowhere_all = nowhere_more run.settings.limits window (effort window) found_none more (is_ended far ≡ true) none nowhere

        larger_all : IsLarger run.settings.limits window all_read
        larger_all = larger_more run.settings.limits window found_none more larger

        past_larger : WantsMore (limits_of far) all_read → IsPast new all_read
        past_larger wants =
            let by = way_seeks far window seeks in (
              met other refused,
              subst (λ (p : Option ℕ). GoesPast (packets_of run) seek run.settings.limits (sizes_of h.gone.parts) all_read p) (sym by.0)
                  (subst (λ (r : Resync). WantsMoreBy (seek_by r) run.settings.limits all_read) (sym by.1) (nowhere_all.0, larger_all, subst (λ (l : Limits). WantsMore l all_read) limits_far wants)),
            )

        -- a read only to look ahead, or if more of it is wanted
        needed_larger : (size : ℕ) → StatesSize (limits_of far) all_read size
            → ReadsFor run (Before (PastWindow window (effort window) nowhere.searched.looked) size) mid new
        needed_larger size states =
            let Few : ℕ → Type 0 = λ came. length (kept mid) + came < 2 * ahead_of window in
            let Less : ℕ → Type 0 = λ came. length (kept far) + came < size in
            let there = ap length stays.kept in
            let stated = subst (λ (l : List ℕ). StatesSize (limits_of far) (l ++ more) size) (sym stays.kept) states in
            reads_then run.left run.calls Few Less (Before (PastWindow window (effort window) nowhere.searched.looked) size)
            (source_of mid) (source_of far) (source_of new) ahead.bytes ahead.consumed
            (reads_looking run.left run.calls window mid far ahead Few (λ came few. few))
            (reads_sized gathering run.left run.calls (limits_of far) (kept far) far.reader new.reader r
            size stated Less (λ came less. less))
            (λ came few. inr few)
            (λ came less. inl (omega (arith, less, there, length-append (kept mid) ahead.bytes)))

        came_larger : looked_of new ≡ looked_of far → (res : Result Passed ReadFault) → PassAnswers [] all_read far new res → CameTo new all_read res
        came_larger looked (Ok Over) p =
            let by = way_seeks far window seeks in
            let done = p.done in
            let states = subst (λ (l : Limits). StatesSize l all_read p.size) limits_far p.states in
            let same = size_once run.settings.limits all_read larger_all.0 p.size larger_all.1 states in
            record {
              by = PastWindow window (effort window) nowhere.searched.looked;
              size = p.size;
              part = (part_read.0, part_read.1, (nowhere_all.0, ap (λ (s : Searched). s.looked) nowhere_all.1, states, omega (arith, same, larger_all.2), p.there));
              passed = (ap seek_by by.1, front_by None by.0);
              kept_is = p.kept;
              done_is = omega (arith, done, stays.done);
              looked_is = looked ∙ counts;
              stopped_is = p.stopped;
              ends = λ e. absurd (false≢true e);
              needed = needed_larger p.size p.states;
            }
        came_larger looked (Ok CutOff) p = let done = p.1.done in (past_larger p.0, p.2, omega (arith, done, stays.done))
        came_larger looked (Ok Not) p = absurd (((sizes_tell run.settings.limits all_read).1 larger_all.0 larger_all.1).0 (subst (λ (l : Limits). StatesNone l all_read) limits_far p.0))
        came_larger looked (Err read.Device) p = inl (past_larger p.0)
        came_larger looked (Err read.TooManyReads) p = (inl (past_larger p.0), p.2)
        came_larger looked res p = absurd p

      by_larger : (new : RawReader R A) → looked_of new ≡ looked_of far → (res : Result Passed ReadFault) → PassesLarger run.left run.calls far new window res → HasOnward new res
      by_larger new looked res passes = elim passes [
        | inl p ↦ elim p.1 [
          | inl over ↦ (
              let refused = subst (λ (s : Option ReadFault). IsRefusal s over.0) stays.stopped over.1 in
              let all = over.2 [] (fresh far (some_far over.0 refused)) in
              record {
                rest = found_none ++ all.0.bytes;
                reads = read_on gathering run.left run.calls run.settings.limits (kept mid) (λ before. WantsMore (limits_of far) (kept far ++ before)) mid.reader far.reader new.reader [] found_none (reads_ahead far window seeks ahead) all.0;
                came_to = came_larger new (larger_there p.0) over.0 refused all.0 looked res (subst (λ (l : List ℕ). PassAnswers [] (l ++ all.0.bytes) far new res) stays.kept all.1);
              }
              )
          | inr not ↦ transport (λ i. HasOnward (sym not.2 i) (sym not.1 i)) (lost (λ whole larger.
              let none = not.0 fault [] (stays.stopped ∙ stopped_last, whole) (fresh far (some_far fault (stopped_last, whole))) in
              ((sizes_tell (limits_of far) (kept far)).1 p.0.0 p.0.1).0 none))
        ]
        | inr not ↦ transport (λ i. HasOnward (sym not.2 i) (sym not.1 i)) (lost (λ _ larger. not.0 (transport (λ i. IsLarger (sym limits_far i) window (sym stays.kept i)) larger)))
      ]

    module _ (new : RawReader R A) where
      -- by what was found
      by_found : (window : ℕ) (seeks : way ≡ ToNext window) (far : RawReader R A) (r : ReadsToGoOn true window run.left run.calls mid far) (found : Result Found ReadFault) → Resyncs (kept mid ++ r.bytes) mid far window found
          → looked_of new ≡ looked_of far → (res : Result Passed ReadFault) → PassesBy run.left run.calls far new window found res → HasOnward new res
      by_found window seeks far r (Ok (At size)) g looked res p =
          transport (λ i. HasOnward (sym p.1 i) (sym p.0 i)) (went far window seeks r (Ok Over) (came_there far window seeks r size g))
      by_found window seeks far r (Ok Nowhere) g looked res p = let none = nowhere_is far window seeks r.bytes Nowhere refl g.0 in by_larger window seeks far r g.1 none.0 none.1 new looked res p
      by_found window seeks far r (Ok Spent) g looked res p = let none = nowhere_is far window seeks r.bytes Spent refl g.0 in by_larger window seeks far r g.1 none.0 none.1 new looked res p
      by_found window seeks far r (Err broken) g looked res p = transport (λ i. HasOnward (sym p.1 i) (sym p.0 i)) (went far window seeks r (Err broken) (came_failed far window seeks r.bytes broken g))

      onward : HasKnownPackets run.packets run.packet mid (packets_of run) → (res : Result Passed ReadFault) → PassedBy new res → IsInput new res → HasOnward new res ⊎ ((res ≡ Ok Not) × (new ≡ mid) × IsUnsized)
      onward known res passing input = by_case way refl passing
        where
          by_case : (b : Way) → way ≡ b → PassesOn run.left run.calls run.packet mid new b res → HasOnward new res ⊎ ((res ≡ Ok Not) × (new ≡ mid) × IsUnsized)
          by_case ToPacket is passed = inl (by_packet new known is passed.1 res passed.0 (input is))
          by_case BySize is passed = by_size new is passed.1 res passed.0
          by_case (ToNext window) is passed = inl (by_found window is passed.mid passed.reads passed.found passed.goes passed.looked res passed.passes)

      -- it was passed over, or tried to
      some_onward : HasKnownPackets run.packets run.packet mid (packets_of run) → (res : Result Passed ReadFault) → (res ≡ Ok Not → ⊥) → PassedBy new res → IsInput new res → HasOnward new res
      some_onward known res some passing input = elim (onward known res passing input) [ inl all ↦ all | inr none ↦ absurd (some none.0) ]

      -- a message that is passed over has bytes
      pub grows : HasKnownPackets run.packets run.packet mid (packets_of run) → PassedBy new (Ok Over) → IsInput new (Ok Over) → (stopped_of new ≡ None) × (done_of mid < done_of new)
      grows known passing input =
          let o = some_onward known (Ok Over) (λ e. cc) passing input in
          let c = o.came_to in
          let some = part_some run.settings.limits o.rest front fault c.by c.size c.part in
          (c.stopped_is, omega (arith, c.done_is, some))

      -- and so has what is there of one
      pub not_less : HasKnownPackets run.packets run.packet mid (packets_of run) → PassedBy new (Ok CutOff) → IsInput new (Ok CutOff) → done_of mid ≤ done_of new
      not_less known passing input = let done = (some_onward known (Ok CutOff) (λ e. cc) passing input).came_to.2 in omega (arith, done)

    module _ (text : List ℕ) (told : Due text) {s2 : S} (took : takes s1 s2 [] text) where
      came_told : takes run.s0 s2 items (h.gone.told ++ text)
      came_told = subst (λ (l : List Placed). takes run.s0 s2 l (h.gone.told ++ text)) (append-nil items) (laws.joins run.s0 s1 s2 items [] h.gone.told text h.gone.came took)

      -- more is wanted then
      still_open : full s2 ≡ false
      still_open = laws.still s1 s2 text took ∙ h.unfilled

      -- it ended so
      ended_so : (new : RawReader R A) (cut : Option (Option ℕ)) (ended : Tally) (rest : List ℕ) (outcome : CutOutcome) → ended ≡ tally_with cut h.gone.parts rest → HaveSameFronts run.settings.limits (kept mid) rest
          → IsOutcome run.settings.limits rest outcome → Some fault ≡ fault_at_end rest outcome → HasCovered run new h.gone.parts rest h.gone.told
          → IsLast (packets_of run) cut run.settings run.settings.limits (sizes_of h.gone.parts) (looked_in h.gone.parts) rest outcome (IsAtEnd (run.left (source_of new))) → run.failures (source_of new) ≡ run.failures (source_of mid)
          → ((run.settings.keeps_going ≡ true → Some fault ≡ None) → ReadsFor run (WantToSee run.settings.limits h.gone.parts rest) run.old new) → HasEnded run takes full new ended (Some fault) s2
      ended_so new cut ended rest outcome tally_is fronts outcome_is fault_is covered last same needed = record {
        told = h.gone.told;
        text = text;
        through = record {
          parts = h.gone.parts;
          rest = rest;
          covers = covers run new h.gone.parts rest h.gone.told covered;
          cut = cut;
          tally_is = tally_is;
          tells = record { outcome = outcome; outcome_is = outcome_is; fault_is = fault_is; told = told_rest rest text fronts told };
          last = last;
          read_failed = same ∙ h.gone.failed;
        };
        messages = items;
        placed = h.gone.placed;
        wanted = h.gone.wanted;
        unfilled = still_open;
        came = came_told;
        needed = needed;
      }

      -- nothing was passed over, since the run is not to go on, or could not
      ended_there : (run.settings.keeps_going ≡ true → IsUnsized) → HasEnded run takes full mid tally (Some fault) s2
      ended_there none =
          ended_so mid None tally (kept mid) h.outcome h.gone.tally_is (λ f p. p, λ f p. p) h.outcome_is fault_last h.gone.covered (last_is h.outcome fault_last (λ not. h.gone.covered.at_end (h.ended not)) none) refl (λ _. h.gone.needed)

      pub halts : run.settings.keeps_going ≡ false → HasEnded run takes full mid tally (Some fault) s2
      halts halt = ended_there (λ goes. absurd (false≢true (sym halt ∙ goes)))

      module _ (new : RawReader R A) (known : HasKnownPackets run.packets run.packet mid (packets_of run)) where
        -- what was read to pass over it
        short_covered : (res : Result Passed ReadFault) (o : HasOnward new res) → HasCovered run new h.gone.parts o.rest h.gone.told
        short_covered res o =
            let c = h.gone.covered in
            let p = o.reads in
            record {
              bytes = c.bytes ++ p.bytes;
              consumed = Consumes-trans _ _ _ _ _ c.consumed p.consumed;
              called = omega (arith, c.called, p.called, p.reads);
              most_reads = p.most_reads ∙ c.most_reads;
              limits_are = p.limits_are;
              at_end = p.at_end c.at_end;
              begin = subst (λ (l : List ℕ). BeginWithParts run.settings.limits (c.bytes ++ p.bytes) h.gone.parts l) p.messages (parts_more run.settings.limits c.bytes h.gone.parts (kept mid) p.bytes (λ e. (p.settled (c.ends e)).0) c.begin);
              ends = λ e. (p.settled (c.ends e)).1;
              tells = c.tells;
            }

        -- it is of the rest then
        fronts_rest : (res : Result Passed ReadFault) (o : HasOnward new res) → HaveSameFronts run.settings.limits (kept mid) o.rest
        fronts_rest res o = subst (λ (l : List ℕ). HaveSameFronts run.settings.limits (kept mid) l) o.reads.messages (fronts_to new o.reads.bytes (λ end. (o.reads.settled end).0))

        refused_rest : (res : Result Passed ReadFault) (o : HasOnward new res) → IsRefused run.settings.limits (kept mid) fault → IsRefused run.settings.limits o.rest fault
        refused_rest res o refused = subst (λ (l : List ℕ). IsRefused run.settings.limits l fault) o.reads.messages (refused_to new o.reads.bytes refused)

        rest_by : (res : Result Passed ReadFault) (o : HasOnward new res) (by : Option ℕ) → packet ≡ by → IsRefusedIn (packets_of run) run.settings.limits (sizes_of h.gone.parts) o.rest by
        rest_by res o by is = refused_as run.settings.limits (kept mid) o.rest (fronts_rest res o) (packets_of run) (sizes_of h.gone.parts) by (refused_by by is)

        rest_is : (res : Result Passed ReadFault) (o : HasOnward new res) → is_ended mid ≡ true → kept mid ≡ o.rest
        rest_is res o end = sym (append-nil (kept mid)) ∙ (ap (λ (l : List ℕ). kept mid ++ l) (sym (o.reads.settled end).0) ∙ o.reads.messages)

        outcome_rest : (res : Result Passed ReadFault) (o : HasOnward new res) (outcome : CutOutcome) → IsOutcome run.settings.limits (kept mid) outcome → Some fault ≡ fault_at_end (kept mid) outcome → (((f : Fault) → outcome ≡ Refused f → ⊥) → is_ended mid ≡ true)
            → IsOutcome run.settings.limits o.rest outcome × (Some fault ≡ fault_at_end o.rest outcome)
        outcome_rest res o Ended is e ended = absurd cc
        outcome_rest res o Unfinished is e ended =
            let same = rest_is res o (ended (λ f never. absurd cc)) in
            transport (λ i. IsOutcome run.settings.limits (same i) Unfinished × (Some fault ≡ fault_at_end (same i) Unfinished)) (is, e)
        outcome_rest res o (Refused other) is e ended =
            (subst (λ (l : List ℕ). IsRefused run.settings.limits l other) o.reads.messages (refused_for_good run.settings.limits (kept mid) o.reads.bytes other is), e)

        cut_off : (res : Result Passed ReadFault) (o : HasOnward new res) → IsPast new o.rest → IsCutOff (packets_of run) seek run.settings.limits (sizes_of h.gone.parts) o.rest packet
        cut_off res o past = (rest_by res o packet refl, past.1)

        -- the input ends within it, or with it
        pub ends_short : (ended_by : Tally) (end : ℕ) (is_cut : Bool) → is_cut ≡ is_none packet → end ≡ done_of new → ended_by ≡ cut_tally tally (end - tally.size) is_cut → (goes : run.settings.keeps_going ≡ true)
            → PassedBy new (Ok CutOff) → IsInput new (Ok CutOff) → run.failures (source_of new) ≡ run.failures (source_of mid) → HasEnded run takes full new ended_by (Some fault) s2
        ends_short ended_by end is_cut by there cut goes passing input same =
            let o = some_onward new known (Ok CutOff) (λ e. cc) passing input in
            let c = o.came_to in
            let covered = short_covered (Ok CutOff) o in
            let size = ap (λ (t : Tally). t.size) h.gone.tally_is in
            let count : end - tally.size ≡ length o.rest = omega (arith, there, c.2, h.gone.done, size) in
            ended_so new (Some packet) ended_by o.rest (Refused fault) (cut ∙ (λ i. cut_tally (h.gone.tally_is i) (count i) (by i))) (fronts_rest (Ok CutOff) o) (refused_rest (Ok CutOff) o c.0.0) refl covered (cut_off (Ok CutOff) o c.0, covered.at_end c.1, goes) same
            (λ faultless. absurd (let none = faultless goes in cc))

        -- it states no size
        last_unsized : (o : HasOnward new (Ok Not)) → StatesNoSize new o.rest → IsLast (packets_of run) None run.settings run.settings.limits (sizes_of h.gone.parts) (looked_in h.gone.parts) o.rest (Refused fault) (IsAtEnd (run.left (source_of new)))
        last_unsized o c = λ _ whole.
            subst (λ (r : Resync). IsUnpassed (packets_of run) (seek_by r) run.settings.limits (sizes_of h.gone.parts) o.rest (IsAtEnd (run.left (source_of new)))) (sym c.2) (rest_by (Ok Not) o None c.1, c.3)

        -- or messages begin again nowhere
        last_lost : (o : HasOnward new (Ok Not)) → IsLost new o.rest → (outcome : CutOutcome) → Some fault ≡ fault_at_end o.rest outcome → (((f : Fault) → outcome ≡ Refused f → ⊥) → is_ended mid ≡ true)
            → IsLast (packets_of run) None run.settings run.settings.limits (sizes_of h.gone.parts) (looked_in h.gone.parts) o.rest outcome (IsAtEnd (run.left (source_of new)))
        last_lost o c outcome e ended = by_outcome outcome e ended
          where
            at_end : is_ended new ≡ true → IsAtEnd (run.left (source_of new))
            at_end = (short_covered (Ok Not) o).at_end

            nowhere : BeginNowhere run.settings.limits c.0 (effort c.0) o.rest (IsAtEnd (run.left (source_of new)))
            nowhere = record { searched = c.3.searched; nowhere = c.3.nowhere; resumes = c.3.resumes; all = elim c.3.all [ inl settled ↦ inl settled | inr end ↦ inr (at_end end) ] }

            by_outcome : (outcome : CutOutcome) → Some fault ≡ fault_at_end o.rest outcome → (((f : Fault) → outcome ≡ Refused f → ⊥) → is_ended mid ≡ true) → IsLast (packets_of run) None run.settings run.settings.limits (sizes_of h.gone.parts) (looked_in h.gone.parts) o.rest outcome (IsAtEnd (run.left (source_of new)))
            by_outcome Ended e ended = absurd cc
            by_outcome Unfinished e ended =
                let same : fault ≡ truncated o.rest = cc in
                let at : fault.at ≡ length o.rest = ap (λ (f : Fault). f.at) same in
                let none = o.reads.settled (ended (λ f is. absurd cc)) in (
                  at_end none.1,
                  λ _. transport (λ i. IsCutUnpassed (packets_of run) (seek_of (sym c.2 i) (sizes_of h.gone.parts) (looked_in h.gone.parts + at i)) run.settings.limits (sizes_of h.gone.parts) o.rest (IsAtEnd (run.left (source_of new)))) (packet, rest_by (Ok Not) o packet refl, λ _. nowhere),
                )
            by_outcome (Refused other) e ended = λ _ whole.
                let same : fault ≡ other = cc in
                transport (λ i. IsUnpassed (packets_of run) (seek_of (sym c.2 i) (sizes_of h.gone.parts) (looked_in h.gone.parts + (same i).at)) run.settings.limits (sizes_of h.gone.parts) o.rest (IsAtEnd (run.left (source_of new))))
                (rest_by (Ok Not) o None c.1, nowhere, c.4 (subst (λ (f : Fault). is_truncated f.reason ≡ false) (sym same) whole))

        stays_by : (goes : run.settings.keeps_going ≡ true) (o : HasOnward new (Ok Not)) (outcome : CutOutcome) → IsOutcome run.settings.limits o.rest outcome → Some fault ≡ fault_at_end o.rest outcome
            → IsLast (packets_of run) None run.settings run.settings.limits (sizes_of h.gone.parts) (looked_in h.gone.parts) o.rest outcome (IsAtEnd (run.left (source_of new))) → run.failures (source_of new) ≡ run.failures (source_of mid) → HasEnded run takes full new tally (Some fault) s2
        stays_by goes o outcome outcome_is fault_is last same =
            ended_so new None tally o.rest outcome h.gone.tally_is (fronts_rest (Ok Not) o) outcome_is fault_is (short_covered (Ok Not) o) last same (λ faultless. absurd (let none = faultless goes in cc))

        stays_after : (goes : run.settings.keeps_going ≡ true) → HasOnward new (Ok Not) → run.failures (source_of new) ≡ run.failures (source_of mid) → HasEnded run takes full new tally (Some fault) s2
        stays_after goes o same = elim o.came_to [
          | inl unsized ↦ stays_by goes o (Refused fault) (refused_rest (Ok Not) o unsized.0) refl (last_unsized o unsized) same
          | inr lost ↦ (
              let all = outcome_rest (Ok Not) o h.outcome h.outcome_is fault_last h.ended in
              stays_by goes o h.outcome all.0 all.1 (last_lost o lost h.outcome all.1 h.ended) same
              )
        ]

        pub stays : run.settings.keeps_going ≡ true → PassedBy new (Ok Not) → IsInput new (Ok Not) → run.failures (source_of new) ≡ run.failures (source_of mid) → HasEnded run takes full new tally (Some fault) s2
        stays goes passing input same = elim (onward new known (Ok Not) passing input) [
          | inl o ↦ stays_after goes o same
          | inr none ↦ transport (λ i. HasEnded run takes full (sym none.1 i) tally (Some fault) s2) (ended_there (λ goes. none.2))
        ]

        module _ (rests : settled s2) where
          sought : (goes : run.settings.keeps_going ≡ true) (res : Result Passed ReadFault) (o : HasOnward new res) → IsSeeking new → IsSought (Took run new) run.settings (most_reads_of run.old) run.is_check h.gone.parts o.rest text
          sought goes res o c =
              let all = outcome_rest res o h.outcome h.outcome_is fault_last h.ended in (
                fault,
                record { outcome = h.outcome; outcome_is = all.0; fault_is = all.1; told = told_rest o.rest text (fronts_rest res o) told },
                goes,
                c.0,
                c.2,
              )

          all_of : (goes : run.settings.keeps_going ≡ true) (res : Result Passed ReadFault) (o : HasOnward new res) → IsPast new o.rest ⊎ IsSeeking new → IsAllOf (Took run new) run.settings (most_reads_of run.old) run.is_check h.gone.parts o.rest text
          all_of goes res o c = elim c [
            | inl past ↦ inr (inl (fault, refused_rest res o past.0, packet, cut_off res o past, goes, told_rest o.rest text (fronts_rest res o) told))
            | inr seeking ↦ inr (inr (sought goes res o seeking))
          ]

          -- it was not passed over, since reading was given up
          torn : (cause : Cause) (res : Result Passed ReadFault) (o : HasOnward new res) → More run (Fills run takes full) new (ByCause cause) h.gone.parts o.rest items text
              → Stopped run new (ByCause cause) → leaves run.s0 s2 items (h.gone.told ++ text) (ByCause cause) → Within run takes leaves full new (ByCause cause) s2
          torn cause res o all caused came = record {
            parts = h.gone.parts;
            rest = o.rest;
            told = h.gone.told;
            covers = covers run new h.gone.parts o.rest h.gone.told (short_covered res o);
            more = text;
            all = all;
            caused = caused;
            messages = items;
            placed = h.gone.placed;
            wanted = h.gone.wanted;
            unfilled = λ _. (s2, h.gone.told ++ text, came_told, still_open);
            came = came;
          }

          pub breaks : (goes : run.settings.keeps_going ≡ true) (broken : ReadFault) → PassedBy new (Err broken) → IsInput new (Err broken)
              → DeviceCounts {T = Passed} (run.failures (source_of mid)) (run.failures (source_of new)) (Err broken) → Within run takes leaves full new (ByCause (cause_of broken)) s2
          breaks goes read.Device passing input counts =
              let o = some_onward new known (Err read.Device) (λ e. cc) passing input in
              torn ReadFailed (Err read.Device) o (all_of goes (Err read.Device) o o.came_to) (counts.0 ∙ ap one_more h.gone.failed)
              (laws.rests run.s0 s2 items (h.gone.told ++ text) came_told rests).1
          breaks goes read.TooManyReads passing input counts =
              let o = some_onward new known (Err read.TooManyReads) (λ e. cc) passing input in
              torn TooManyReads (Err read.TooManyReads) o (all_of goes (Err read.TooManyReads) o o.came_to.0)
              (counts ∙ h.gone.failed, all_called run new h.gone.parts o.rest h.gone.told (short_covered (Err read.TooManyReads) o) o.came_to.1)
              (laws.rests run.s0 s2 items (h.gone.told ++ text) came_told rests).2
          breaks goes read.Memory passing input counts =
              let o = some_onward new known (Err read.Memory) (λ e. cc) passing input in
              torn Memory (Err read.Memory) o (inr (inr (sought goes (Err read.Memory) o o.came_to))) (counts ∙ h.gone.failed)
              (laws.rests run.s0 s2 items (h.gone.told ++ text) came_told rests).0
          breaks goes (read.Format f) passing input counts =
              let o = some_onward new known (Err (read.Format f)) (λ e. cc) passing input in
              torn Memory (Err (read.Format f)) o (inr (inr (sought goes (Err (read.Format f)) o o.came_to))) (counts ∙ h.gone.failed)
              (laws.rests run.s0 s2 items (h.gone.told ++ text) came_told rests).0

        pub goes_on : (past : Tally) (end : ℕ) → end ≡ done_of new → past ≡ record { count = tally.count + 1; size = end; passed = tally.passed + 1; passed_size = tally.passed_size + (end - tally.size); is_cut = tally.is_cut }
            → run.settings.keeps_going ≡ true → PassedBy new (Ok Over) → IsInput new (Ok Over) → run.failures (source_of new) ≡ run.failures (source_of mid) → HasGone run takes full new past s2
        goes_on past end there past_is goes passing input same =
            let o = some_onward new known (Ok Over) (λ e. cc) passing input in
            let c = o.came_to in
            let n = c.size in
            let done = c.done_is in
            let parts = h.gone.parts in
            let is = h.gone.tally_is in
            let part = PassedOver front fault c.by n in
            let w : kept mid ++ o.reads.bytes ≡ o.rest = o.reads.messages in
            let begin : BeginWithParts run.settings.limits o.rest (part ∷ []) (kept new) = (c.part, sym c.kept_is) in
            let begin_there = subst (λ (l : List ℕ). BeginWithParts run.settings.limits l (part ∷ []) (kept new)) (sym w) begin in
            let number : 1 + length parts ≡ length parts + 1 = omega arith in
            let offset : sizes_of parts ≡ 0 + sizes_of parts = omega arith in
            let told_front = told_as (packets_of run) run.settings (1 + length parts) (sizes_of parts) (kept mid) front fault text (fronts_own run.settings.limits (kept mid) front is_front) (told_at (1 + length parts) text number told) in
            let told_next = subst (λ (o : ℕ). IsToldRefused (packets_of run) run.settings (1 + length parts) o front fault text) offset told_front in
            let passed_next = subst (λ (o : ℕ). IsPassedBy (packets_of run) (seek_of run.settings.resync o (looked_in parts + fault.at)) run.settings.limits o front c.by n) offset c.passed in
            let ended : reach_end (part ∷ []) ≡ true → is_ended new ≡ true = λ e. c.ends (or_last (is_to_end c.by) e) in
            let told_is : AreTold (packets_of run) run.settings (1 + length parts) (0 + sizes_of parts) (looked_in parts) (part ∷ []) text = (text, [], sym (append-nil text), (goes, passed_next, told_next), refl) in
            let count_is : tally.count + 1 ≡ length (parts ++ part ∷ []) = omega (arith, ap (λ (t : Tally). t.count) is, length-append parts (part ∷ [])) in
            let size_is : done_of new ≡ sizes_of (parts ++ part ∷ []) = omega (arith, done, h.gone.done, sizes-both parts (part ∷ [])) in
            let passed_is : tally.passed + 1 ≡ passed_count (parts ++ part ∷ []) = omega (arith, ap (λ (t : Tally). t.passed) is, passed-both parts (part ∷ [])) in
            let passed_size_is : tally.passed_size + (end - tally.size) ≡ passed_sizes (parts ++ part ∷ [])
            = omega (arith, there, ap (λ (t : Tally). t.passed_size) is, ap (λ (t : Tally). t.size) is, done, h.gone.done, passed_sizes-both parts (part ∷ [])) in
            record {
              parts = parts ++ part ∷ [];
              told = h.gone.told ++ text;
              covered = covers_read run mid new parts (part ∷ []) (kept mid) (kept new) h.gone.told text o.rest [] h.gone.covered o.reads begin_there ended told_is;
              tally_is = past_is ∙ (λ i. record { count = count_is i; size = (there ∙ size_is) i; passed = passed_is i; passed_size = passed_size_is i; is_cut = (is i).is_cut });
              done = size_is;
              looked = c.looked_is ∙ (ap (λ (n : ℕ). looked_for c.by fault.at n (looked_in parts)) offset ∙ sym (looked-both parts (part ∷ []) 0 0));
              failed = same ∙ h.gone.failed;
              messages = items;
              placed = placed_past (packets_of run) 1 0 parts front fault c.by n items h.gone.placed;
              came = came_told;
              wanted = h.gone.wanted;
              unfilled = λ enough. absurd (false≢true (sym still_open ∙ enough));
              needed = reads_on h.gone (Before c.by n) (MoreWanted run new (parts ++ part ∷ [])) new c.needed
                  (λ came w. inl (elim w [
                    | inl more ↦ wanted_more run.settings.limits 0 parts (part ∷ []) came more
                    | inr unshown ↦ wanted_for c.by n came (inl unshown)
                  ]))
                  (λ came w. elim w [
                    | inl inside ↦ inr (unshown_none new (parts ++ part ∷ []) (length h.gone.covered.bytes + came)
                        (omega (arith, inside, read_parts h.gone, sizes-both parts (part ∷ []))))
                    | inr few ↦ inl (wanted_for c.by n (length h.gone.covered.bytes + came)
                        (inr (omega (arith, few, read_parts h.gone))))
                  ]);
            }
