-- The turns of a run that passes over refused messages. Each hands on the messages up to the next
-- fault, tells it, and passes over that message.
use Rattle.std.proofs.Common.{◌≡◌, ◌⊎◌, ◌||◌, ℕ, ◌+◌, ◌-◌, ◌^◌, ◌<◌, ◌≤◌, Bool, List, [], ◌∷◌, ◌++◌, true, false, None, Some, Ok, Option, length, take, refl, sym, ap, ◌∙◌, subst, arith, inl, inr, append-nil, length-append}
use Rattle.std.proofs.Math.Path.{transport}
use Rattle.std.specs.Io.KnownBytes.{Consumes}
use Rattle.std.proofs.KnownBytes.{Consumes-nil, Consumes-trans}
use Rattle.std.proofs.lemmas.Bool.{cases_lt, false≢true}
use Rattle.std.proofs.lemmas.List.{length-map}
use Rattle.dbus_value_model.specs.declared.fault.Fault.{Fault}
use Rattle.dbus_value_model.specs.declared.limits.Limits.{Limits}
use Rattle.dbus_header.specs.MessageOutcomes.{IsPartial, IsRefused}
use Rattle.dbus_device.specs.Device.{one_more, RisesBy}
use Rattle.dbus_device.specs.Packets.{Packets}
use Rattle.dbus_device.specs.declared.packet.Packet.{Packet}
use Rattle.dbus_stream.specs.Cut.{BeginWith, CutMessage, CutOutcome, Ended, Unfinished, Refused, IsOutcome}
use Rattle.dbus_stream.specs.CutEnds.{fault_at_end, truncated, sizes}
use Rattle.dbus_stream.specs.Gathering.{gathering}
use Rattle.dbus_stream.specs.Lasting.{is_truncated}
use Rattle.dbus_stream.specs.Passing.{WasDropped}
use Rattle.dbus_stream.proofs.SizeSteps.{none_dropped}
use Rattle.dbus_stream.specs.RawReading.{IsNewReader, done_of, is_ended, kept, limits_of, looked_of, most_reads_of, reads_of, source_of, stopped_of}
use Rattle.dbus_stream.specs.declared.raw_reader.RawReader.{RawReader}
use Rattle.cli_options.specs.declared.settings.Settings.{Settings}
use Rattle.cli_report.specs.Devices.{Reading, reading, taken, Taken}
use Rattle.cli_run.specs.Going.{Covers, EndsWhole, IsMore, IsStopOf, IsThrough, StopsWithin, AreTold, passed_count, passed_sizes, tally_of}
use Rattle.cli_report.specs.FaultFronts.{IsFaultFront}
use Rattle.cli_run.specs.Inputs.{AreInPacket, ArePlaced, BeginWithParts, Part, Placed, Whole, looked_in, reach_end, sizes_of, wholes}
use Rattle.cli_run.specs.Needed.{IsUnshown, ReadsIf, WantMore, WantToSee}
use Rattle.cli_run.specs.Onward.{HasKnownPackets, HasRead, HandsEnough, HandsRawOn, HandsSomeOn, IsTrueEnd, RawHandsOn, stop_of}
use Rattle.cli_run.specs.Refusals.{IsRefusedIn, number_of}
use Rattle.cli_run.specs.Visiting.{AddsUp, AreWanted, FillsBy, IsOfReading}
use Rattle.cli_report.specs.declared.ending.Cause.{Cause}
use Rattle.cli_report.specs.declared.ending.Cause.TheVariants.{Memory, ReadFailed, WriteFailed, TooManyReads}
use Rattle.cli_run.specs.declared.counted.Counted.{Counted}
use Rattle.cli_run.specs.declared.tally.Tally.{Tally}
use Rattle.cli_run.specs.declared.visitor.RunStop.{RunStop}
use Rattle.cli_run.specs.declared.visitor.RunStop.TheVariants.{Cause as ByCause}
use Rattle.cli_run.proofs.KnownPackets.{behind_there, refused_there}
use Rattle.cli_run.proofs.NeededSteps.{less_wanted, reads_then, unshown_on, wanted_more}
use Rattle.cli_run.proofs.Wanted.{ends_whole, filled_next, wanted_next}
use Rattle.cli_run.proofs.PartLaws.{reach-both, reach_wholes, parts_length, parts_more, parts_both, parts_of, few_parts, few_passed, few_passed_sizes, looked-both, looked-wholes, sizes-both, passed-both, passed_sizes-both, sizes-wholes, passed-wholes, passed_sizes-wholes, placed_both, told_both, told_of}

-- one of two
either_true : (a b : Bool) → a || b ≡ true → (a ≡ true) ⊎ (b ≡ true)
either_true true b e = inl refl
either_true false b e = inr e

-- a refusal is no end of the input
pub refused_is : (limits : Limits) (w : List ℕ) (fault : Fault) (outcome : CutOutcome) → IsOutcome limits w outcome → Some fault ≡ fault_at_end w outcome → is_truncated fault.reason ≡ false
    → IsRefused limits w fault
refused_is limits w fault Ended o e not = absurd cc
refused_is limits w fault Unfinished o e not =
    let same : fault ≡ truncated w = cc in
    absurd (false≢true (sym not ∙ ap (λ (f : Fault). is_truncated f.reason) same))
refused_is limits w fault (Refused other) o e not = let same : other ≡ fault = cc in subst (λ f. IsRefused limits w f) same o

pub none_is : (w : List ℕ) (outcome : CutOutcome) → None ≡ fault_at_end w outcome → outcome ≡ Ended
none_is w Ended e = refl
none_is w Unfinished e = absurd cc
none_is w (Refused fault) e = absurd cc

-- no byte of a refused message was dropped before, if any is kept
pub fresh : {R A : Type 0} (mid : RawReader R A) → 0 < length (kept mid) → WasDropped mid []
fresh mid some = none_dropped mid.refused (elim (cases_lt 0 mid.refused.dropped) [
  | inl more ↦ absurd (let none = ap length (mid.dropped_alone more) in omega (arith, none, some))
  | inr zero ↦ omega (arith, zero)
])

pub done_small : {R A : Type 0} (r : RawReader R A) → done_of r ≤ 2 ^ 50
done_small r = omega (arith, r.reader.counted, r.reader.few_reads, r.reader.low_most)

-- how far a turn is
pub record IsWithin (tally : Tally) (done : ℕ) : Type 0 where
  pub count : tally.count ≤ done
  pub size : tally.size ≡ done
  pub passed : tally.passed ≤ tally.count
  pub passed_size : tally.passed_size ≤ tally.size
  pub small : done ≤ 2 ^ 50

-- messages that were handed on are all of a stretch
pub wholes_tally : (parts : List Part) (items : List CutMessage) (count size : ℕ) (tally : Tally) → tally ≡ tally_of parts → count ≡ tally.count + length items → size ≡ sizes_of parts + sizes items
    → record tally { count = count; size = size } ≡ tally_of (parts ++ wholes items)
wholes_tally parts items count size tally is number bytes =
    let count_is : count ≡ length (parts ++ wholes items)
    = omega (arith, number, ap (λ (t : Tally). t.count) is, length-append parts (wholes items), length-map items Whole) in
    let size_is : size ≡ sizes_of (parts ++ wholes items) = omega (arith, bytes, sizes-both parts (wholes items), sizes-wholes items) in
    let passed_is : tally.passed ≡ passed_count (parts ++ wholes items)
    = omega (arith, ap (λ (t : Tally). t.passed) is, passed-both parts (wholes items), passed-wholes items) in
    let passed_size_is : tally.passed_size ≡ passed_sizes (parts ++ wholes items)
    = omega (arith, ap (λ (t : Tally). t.passed_size) is, passed_sizes-both parts (wholes items), passed_sizes-wholes items) in
    let cut_is : tally.is_cut ≡ false = ap (λ (t : Tally). t.is_cut) is in
    λ i. record { count = count_is i; size = size_is i; passed = passed_is i; passed_size = passed_size_is i; is_cut = cut_is i }

-- what a run begins with: the source, and where it and the visitor stand
pub record Begun (R A S : Type 0) : Type 0 where
  pub left : R → Option (List ℕ)
  pub calls : R → ℕ
  pub failures : R → ℕ
  pub packets : R → Option Packets
  pub packet : R → Option Packet
  pub settings : Settings
  pub is_check : Bool
  pub old : RawReader R A
  pub s0 : S

module _ {R A S : Type 0} (run : Begun R A S) where
  -- the source before and after
  abbrev pub Reads : RawReader R A → Reading R
  Reads new = reading run.left run.calls run.failures run.packets (source_of run.old) (source_of new)

  abbrev pub Took : RawReader R A → Taken
  Took new = taken (Reads new)

  -- of which packets the bytes of the input are
  abbrev pub packets_of : Option Packets
  packets_of = run.packets (source_of run.old)

  -- what was read is these parts and then the rest
  pub record HasCovered (new : RawReader R A) (parts : List Part) (rest told : List ℕ) : Type 0 where
    pub bytes : List ℕ
    pub consumed : Consumes (run.left (source_of run.old)) (run.left (source_of new)) bytes
    pub called : RisesBy (reads_of new) (run.calls (source_of run.old)) (run.calls (source_of new))
    pub most_reads : most_reads_of new ≡ most_reads_of run.old
    pub limits_are : limits_of new ≡ run.settings.limits
    pub at_end : IsTrueEnd run.left new.reader
    pub begin : BeginWithParts run.settings.limits bytes parts rest
    pub ends : reach_end parts ≡ true → is_ended new ≡ true
    pub tells : AreTold packets_of run.settings 1 0 0 parts told

  -- nothing more is read after the end
  ends_none : (mid new : RawReader R A) (parts : List Part) (from rest told w : List ℕ) (items : List CutMessage) → HasCovered mid parts from told → (r : HasRead gathering run.left run.calls run.settings.limits from mid.reader new.reader items w)
      → reach_end parts ≡ true → r.bytes ≡ []
  ends_none mid new parts from rest told w items h r e = (r.settled (h.ends e)).0

  -- more was read, and begins with more parts
  pub covers_read : (mid new : RawReader R A) (parts more : List Part) (from rest told t w : List ℕ) (items : List CutMessage) → HasCovered mid parts from told
      → (r : HasRead gathering run.left run.calls run.settings.limits from mid.reader new.reader items w) → BeginWithParts run.settings.limits (from ++ r.bytes) more rest
      → (reach_end more ≡ true → is_ended new ≡ true) → AreTold packets_of run.settings (1 + length parts) (0 + sizes_of parts) (looked_in parts) more t → HasCovered new (parts ++ more) rest (told ++ t)
  covers_read mid new parts more from rest told t w items h r begin end tells = record {
    bytes = h.bytes ++ r.bytes;
    consumed = Consumes-trans _ _ _ _ _ h.consumed r.consumed;
    called = omega (arith, h.called, r.called, r.reads);
    most_reads = r.most_reads ∙ h.most_reads;
    limits_are = r.limits_are;
    at_end = r.at_end h.at_end;
    begin = parts_both run.settings.limits (h.bytes ++ r.bytes) parts more (from ++ r.bytes) rest (parts_more run.settings.limits h.bytes parts from r.bytes (ends_none mid new parts from rest told w items h r) h.begin) begin;
    ends = λ e. elim (either_true (reach_end parts) (reach_end more) (sym (reach-both parts more) ∙ e)) [ inl first ↦ (r.settled (h.ends first)).1 | inr second ↦ end second ];
    tells = told_both packets_of run.settings 1 0 0 parts more told t h.tells tells;
  }

  -- as a clause says it
  pub covers : (new : RawReader R A) (parts : List Part) (rest told : List ℕ) → HasCovered new parts rest told → Covers (Took new) run.settings (most_reads_of run.old) run.is_check parts rest told
  covers new parts rest told h = record {
    bytes = h.bytes;
    consumed = h.consumed;
    called = (reads_of new, subst (λ (n : ℕ). reads_of new ≤ n) h.most_reads new.reader.few_reads, h.called);
    begin = h.begin;
    ends = λ e. h.at_end (h.ends e);
    tells = h.tells;
  }

  pub all_called : (new : RawReader R A) (parts : List Part) (rest told : List ℕ) → HasCovered new parts rest told → reads_of new ≡ most_reads_of new
      → RisesBy (most_reads_of run.old) (run.calls (source_of run.old)) (run.calls (source_of new))
  all_called new parts rest told h e = subst (λ n. RisesBy n (run.calls (source_of run.old)) (run.calls (source_of new))) (e ∙ h.most_reads) h.called

  -- ---- what a clause says

  abbrev pub Through : RawReader R A → Tally → Option Fault → (told text : List ℕ) → Type 0
  Through new tally fault told text = IsThrough (Took new) run.settings (most_reads_of run.old) run.is_check tally fault told text

  abbrev pub Stopped : RawReader R A → RunStop → Type 0
  Stopped new stop = IsStopOf (Took new) (most_reads_of run.old) stop

  abbrev pub More : (List Placed → Bool → Type 0) → RawReader R A → RunStop → List Part → List ℕ → List Placed → List ℕ → Type 0
  More filled new stop parts rest messages more = IsMore (Took new) run.settings (most_reads_of run.old) run.is_check filled stop parts rest messages more

  -- what was read of the source, and for what
  abbrev pub ReadsFor : (Holds : (came : ℕ) → Type 0) → (from new : RawReader R A) → Type 0
  ReadsFor Holds from new = ReadsIf run.left run.calls Holds (source_of from) (source_of new)

  -- more than so many bytes are wanted for the parts, or since what follows them shows no fault
  abbrev pub Wants : List Part → (came : ℕ) → Type 0
  Wants parts came = WantMore run.settings.limits 0 parts came

  abbrev pub Unshown : List Part → List ℕ → (came : ℕ) → Type 0
  Unshown parts rest came = IsUnshown run.settings.limits (sizes_of parts) rest came

  abbrev pub MoreWanted : RawReader R A → List Part → (came : ℕ) → Type 0
  MoreWanted new parts came = WantToSee run.settings.limits parts (kept new) came

  -- what comes behind the bytes of a message that show its fault is of this packet
  abbrev pub IsAllBehind : List ℕ → (number offset : ℕ) → Type 0
  IsAllBehind w number offset = (front : List ℕ) → IsFaultFront run.settings.limits w front → AreInPacket packets_of number (offset + length front) (offset + length w)

  module _ (takes : S → S → List Placed → (told : List ℕ) → Type 0) (full : S → Bool) where
    -- these messages were wanted, of the run
    abbrev pub Fills : List Placed → Bool → Type 0
    Fills messages filled = FillsBy takes full run.s0 messages filled

    -- where a turn stands: no more is wanted only if no part came
    pub record HasGone (new : RawReader R A) (tally : Tally) (s : S) : Type 0 where
      pub parts : List Part
      pub told : List ℕ
      pub covered : HasCovered new parts (kept new) told
      pub tally_is : tally ≡ tally_of parts
      pub done : done_of new ≡ sizes_of parts
      pub looked : looked_of new ≡ looked_in parts
      pub failed : run.failures (source_of new) ≡ run.failures (source_of run.old)
      pub messages : List Placed
      pub placed : ArePlaced packets_of 1 0 parts messages
      pub came : takes run.s0 s messages told
      pub wanted : AreWanted Fills [] messages
      pub unfilled : full s ≡ true → parts ≡ []
      pub needed : ReadsFor (MoreWanted new parts) run.old new

    pub gone_none : ((a : S) → takes a a [] []) → IsNewReader (source_of run.old) (most_reads_of run.old) run.settings.limits run.old
        → HasGone run.old (record { count = 0; size = 0; passed = 0; passed_size = 0; is_cut = false }) run.s0
    gone_none nothing new_reader = record {
      parts = [];
      told = [];
      covered = record {
        bytes = [];
        consumed = Consumes-nil (run.left (source_of run.old));
        called = omega (arith, new_reader.reads);
        most_reads = new_reader.most_reads;
        limits_are = new_reader.limits;
        at_end = λ e. absurd (false≢true (sym new_reader.ended ∙ e));
        begin = sym new_reader.kept;
        ends = λ e. absurd (false≢true e);
        tells = refl;
      };
      tally_is = refl;
      done = new_reader.done;
      looked = new_reader.looked;
      failed = refl;
      messages = [];
      placed = refl;
      came = nothing run.s0;
      wanted = tt;
      unfilled = λ _. refl;
      needed = inl (omega arith);
    }

    -- the messages up to a fault, or up to the end, were handed on
    pub record HasReached (new : RawReader R A) (counted : Counted) (tally : Tally) (s : S) : Type 0 where
      pub gone : HasGone new tally s
      pub count_is : tally.count ≡ counted.count
      pub size_is : tally.size ≡ counted.size
      pub outcome : CutOutcome
      pub outcome_is : IsOutcome run.settings.limits (kept new) outcome
      pub fault_is : counted.fault ≡ fault_at_end (kept new) outcome
      pub stopped : stopped_of new ≡ stop_of counted.fault
      pub unfilled : full s ≡ false
      pub ended : ((f : Fault) → outcome ≡ Refused f → ⊥) → is_ended new ≡ true
      -- the fault is of the packet of the bytes that were read last
      pub refused_in : (fault : Fault) → counted.fault ≡ Some fault → IsRefusedIn packets_of run.settings.limits (done_of new) (kept new) (number_of (run.packet (source_of new)))
      pub behind : (fault : Fault) → counted.fault ≡ Some fault → (number : ℕ) → number_of (run.packet (source_of new)) ≡ Some number → IsAllBehind (kept new) number (done_of new)

    -- nothing follows, and all is told but the last line
    pub record HasEnded (new : RawReader R A) (tally : Tally) (fault : Option Fault) (s : S) : Type 0 where
      pub told : List ℕ
      pub text : List ℕ
      pub through : Through new tally fault told text
      pub messages : List Placed
      pub placed : ArePlaced packets_of 1 0 through.parts messages
      pub wanted : AreWanted Fills [] messages
      pub unfilled : full s ≡ false
      pub came : takes run.s0 s messages (told ++ text)
      pub needed : (run.settings.keeps_going ≡ true → fault ≡ None) → ReadsFor (WantToSee run.settings.limits through.parts through.rest) run.old new

    -- or no more is wanted after the parts
    pub record HasEnough (new : RawReader R A) (tally : Tally) (s : S) : Type 0 where
      pub parts : List Part
      pub told : List ℕ
      pub covered : HasCovered new parts (kept new) told
      pub tally_is : tally ≡ tally_of parts
      pub failed : run.failures (source_of new) ≡ run.failures (source_of run.old)
      pub messages : List Placed
      pub placed : ArePlaced packets_of 1 0 parts messages
      pub came : takes run.s0 s messages told
      pub wanted : AreWanted Fills [] messages
      pub last : EndsWhole parts
      pub enough : full s ≡ true
      pub needed : ReadsFor (Wants parts) run.old new

  module _ (takes : S → S → List Placed → (told : List ℕ) → Type 0) (leaves : S → S → List Placed → (told : List ℕ) → RunStop → Type 0) (full : S → Bool) where
    abbrev pub Within : RawReader R A → RunStop → S → Type 0
    Within new stop s = StopsWithin (Took new) run.settings (most_reads_of run.old) run.is_check (Fills takes full) (leaves run.s0 s) stop

    -- nothing is told of the rest
    pub stops_plain : (cause : Cause) (new : RawReader R A) (parts : List Part) (rest told : List ℕ) (s : S) → HasCovered new parts rest told → (messages : List Placed) → More (Fills takes full) new (ByCause cause) parts rest messages [] → Stopped new (ByCause cause)
        → ArePlaced packets_of 1 0 parts messages → AreWanted (Fills takes full) [] messages → (IsOfReading (ByCause cause) → Fills takes full messages false) → leaves run.s0 s messages told (ByCause cause) → Within new (ByCause cause) s
    stops_plain cause new parts rest told s h messages all caused placed wanted unfilled came = record {
      parts = parts;
      rest = rest;
      told = told;
      covers = covers new parts rest told h;
      more = [];
      all = all;
      caused = caused;
      messages = messages;
      placed = placed;
      wanted = wanted;
      unfilled = unfilled;
      came = subst (λ (l : List ℕ). leaves run.s0 s messages l (ByCause cause)) (sym (append-nil told)) came;
    }

-- ---- messages are handed on

module _ {R A S : Type 0} {takes : S → S → List Placed → (told : List ℕ) → Type 0} {full : S → Bool} {run : Begun R A S} {mid : RawReader R A} {tally : Tally} {s1 : S} (h : HasGone run takes full mid tally s1) where
  count_parts : tally.count ≡ length h.parts
  count_parts = ap (λ (t : Tally). t.count) h.tally_is

  size_parts : tally.size ≡ sizes_of h.parts
  size_parts = ap (λ (t : Tally). t.size) h.tally_is

  pub within : IsWithin tally (done_of mid)
  within = record {
    count = omega (arith, count_parts, few_parts run.settings.limits h.covered.bytes h.parts (kept mid) h.covered.begin, h.done);
    size = size_parts ∙ sym h.done;
    passed = omega (arith, count_parts, ap (λ (t : Tally). t.passed) h.tally_is, few_passed h.parts);
    passed_size = omega (arith, size_parts, ap (λ (t : Tally). t.passed_size) h.tally_is, few_passed_sizes h.parts);
    small = done_small mid;
  }

  -- what was read for the parts, and for what follows them
  pub read_parts : length h.covered.bytes ≡ sizes_of h.parts + length (kept mid)
  read_parts = parts_length run.settings.limits h.covered.bytes h.parts (kept mid) h.covered.begin

  pub reads_on : (Then Holds : ℕ → Type 0) (new : RawReader R A) → ReadsFor run Then mid new
      → ((came : ℕ) → MoreWanted run mid h.parts came → Holds came)
      → ((came : ℕ) → Then came → Holds (length h.covered.bytes + came))
      → ReadsFor run Holds run.old new
  reads_on Then Holds new next f g =
      reads_then run.left run.calls (MoreWanted run mid h.parts) Then Holds (source_of run.old)
      (source_of mid) (source_of new) h.covered.bytes h.covered.consumed h.needed next f g

  -- they are the next parts
  placed_next : (items : List CutMessage) (messages : List Placed) → ArePlaced (packets_of run) (tally.count + 1) (done_of mid) (wholes items) messages
      → ArePlaced (packets_of run) 1 0 (h.parts ++ wholes items) (h.messages ++ messages)
  placed_next items messages p =
      let n : tally.count + 1 ≡ 1 + length h.parts = omega (arith, count_parts) in
      let at : done_of mid ≡ 0 + sizes_of h.parts = omega (arith, h.done) in
      placed_both (packets_of run) 1 0 h.parts (wholes items) h.messages messages h.placed (transport (λ i. ArePlaced (packets_of run) (n i) (at i) (wholes items) messages) p)

  module _ {leaves : S → S → List Placed → (told : List ℕ) → RunStop → Type 0} {settled : S → Type 0} (laws : AddsUp takes leaves settled full) (known : HasKnownPackets run.packets run.packet mid (packets_of run))
      (new : RawReader R A) (s2 : S) where
    covered_next : (items : List CutMessage) (rest last : List ℕ) → rest ≡ last → HasRead gathering run.left run.calls run.settings.limits (kept mid) mid.reader new.reader items rest
        → HasCovered run new (h.parts ++ wholes items) last h.told
    covered_next items rest last e r =
        subst (λ (l : List ℕ). HasCovered run new (h.parts ++ wholes items) last l) (append-nil h.told)
        (covers_read run mid new h.parts (wholes items) (kept mid) last h.told [] rest items h.covered r
        (subst (λ (l : List ℕ). BeginWithParts run.settings.limits (kept mid ++ r.bytes) (wholes items) l) e (parts_of run.settings.limits (kept mid ++ r.bytes) items rest r.messages))
        (λ reached. absurd (false≢true (sym (reach_wholes items) ∙ reached)))
        (told_of (packets_of run) run.settings (1 + length h.parts) (0 + sizes_of h.parts) (looked_in h.parts) items))

    -- and what was wanted for them
    both_sizes : (items : List CutMessage)
        → sizes_of (h.parts ++ wholes items) ≡ sizes_of h.parts + sizes items
    both_sizes items = omega (arith, sizes-both h.parts (wholes items), sizes-wholes items)

    few_wanted : (items : List CutMessage) (came : ℕ) → came < sizes_of h.parts + sizes items
        → Wants run (h.parts ++ wholes items) came
    few_wanted items came few =
        less_wanted run.settings.limits 0 (h.parts ++ wholes items) came
        (omega (arith, few, both_sizes items))

    wanted_on : (items : List CutMessage) (rest bytes : List ℕ)
        → BeginWith run.settings.limits (kept mid ++ bytes) items rest → (came : ℕ)
        → MoreWanted run mid h.parts came → Wants run (h.parts ++ wholes items) came
        ⊎ ((items ≡ []) × Unshown run (h.parts ++ wholes items) rest came)
    wanted_on items rest bytes messages came wanted =
        let limits = run.settings.limits in
        elim wanted [
          | inl more ↦ inl (wanted_more limits 0 h.parts (wholes items) came more)
          | inr unshown ↦
              elim (unshown_on limits (sizes_of h.parts) (kept mid) bytes items rest came messages unshown) [
                | inl few ↦ inl (few_wanted items came few)
                | inr same ↦ inr (
                  same.0,
                  (let none : sizes_of h.parts ≡ sizes_of (h.parts ++ wholes items)
                      = omega (arith, both_sizes items, ap sizes same.0) in
                      subst (λ (at : ℕ). IsUnshown limits at rest came) none same.1),
                )
              ]
        ]

    reads_enough : (tally.passed ≡ 0 → (source_of mid ≡ source_of run.old) × (tally.size ≡ 0))
        → (items : List CutMessage) (bytes : List ℕ)
        → BeginWith run.settings.limits (kept mid ++ bytes) items (kept new) → (items ≡ [] → h.parts ≡ [])
        → ReadsFor run (λ came. length (kept mid) + came < sizes items) mid new
        → ReadsFor run (Wants run (h.parts ++ wholes items)) run.old new
    reads_enough first [] bytes messages none few =
        let passed = ap (λ (t : Tally). t.passed) h.tally_is ∙ ap passed_count (none refl) in
        let calls = ap run.calls (first passed).0 in
        elim few [
          | inl unread ↦ inl (omega (arith, unread, calls))
          | inr (before, between, came, last, less) ↦ absurd (omega (arith, less))
        ]
    reads_enough first (item ∷ items) bytes messages none few =
        let all = item ∷ items in
        reads_on (λ came. length (kept mid) + came < sizes all) (Wants run (h.parts ++ wholes all)) new few
        (λ came wanted. elim (wanted_on all (kept new) bytes messages came wanted) [
          | inl more ↦ more
          | inr same ↦ absurd (let never : item ∷ items ≡ [] = same.0 in cc)
        ])
        (λ came less. few_wanted all (length h.covered.bytes + came) (omega (arith, less, read_parts)))

    -- up to a fault, or up to the end
    pub reach : HasKnownPackets run.packets run.packet new (packets_of run) → looked_of new ≡ looked_of mid → (counted : Counted) (up : Tally) → up ≡ record tally { count = counted.count; size = counted.size }
        → HandsRawOn run.left run.calls run.failures run.packets run.packet takes leaves full run.settings.limits tally.count counted mid new s1 s2 → HasReached run takes full new counted up s2
    reach known_new looked counted up is a =
        let items = a.all.items in
        let limits = run.settings.limits in
        let more = a.all.messages in
        let size : counted.size ≡ sizes_of h.parts + sizes items = omega (arith, a.all.size_is, h.done) in
        let came = subst (λ (l : List ℕ). takes run.s0 s2 (h.messages ++ more) l) (append-nil h.told) (laws.joins run.s0 s1 s2 h.messages more h.told [] h.came a.all.taken) in
        record {
          gone = record {
            parts = h.parts ++ wholes items;
            told = h.told;
            covered = covered_next items a.all.rest (kept new) (sym a.kept) a.all.read;
            tally_is = is ∙ wholes_tally h.parts items counted.count counted.size tally h.tally_is a.all.count_is size;
            done = omega (arith, a.all.done, size, sizes-both h.parts (wholes items), sizes-wholes items);
            looked = looked ∙ (h.looked ∙ sym (looked-both h.parts (wholes items) 0 0 ∙ looked-wholes items (0 + sizes_of h.parts) (looked_in h.parts)));
            failed = a.all.failed ∙ h.failed;
            messages = h.messages ++ more;
            placed = placed_next items more (a.all.placed (packets_of run) known);
            came = came;
            wanted = wanted_next laws run.s0 s1 h.messages h.told h.came more h.wanted a.all.wanted;
            unfilled = λ enough. absurd (false≢true (sym a.unfilled ∙ enough));
            needed = reads_on (λ came. IsUnshown limits (sizes items) a.all.rest (length (kept mid) + came))
                (MoreWanted run new (h.parts ++ wholes items)) new a.all.needed
                (λ came w. elim (wanted_on items a.all.rest a.all.read.bytes a.all.read.messages came w) [
                  | inl more ↦ inl more
                  | inr same ↦ inr (subst (λ (l : List ℕ). Unshown run (h.parts ++ wholes items) l came) (sym a.kept) same.1)
                ])
                (λ came u.
                let same : length (kept mid) + came - sizes items ≡ length h.covered.bytes + came - sizes_of (h.parts ++ wholes items)
                = omega (arith, read_parts, both_sizes items) in
                inr (
                  omega (arith, u.0, read_parts, both_sizes items, ap length a.kept),
                  transport (λ i. IsPartial limits (take (same i) (sym a.kept i))) u.1,
                ));
          };
          count_is = ap (λ (t : Tally). t.count) is;
          size_is = ap (λ (t : Tally). t.size) is;
          outcome = a.all.outcome;
          outcome_is = subst (λ (l : List ℕ). IsOutcome run.settings.limits l a.all.outcome) (sym a.kept) a.all.outcome_is;
          fault_is = a.all.fault_is ∙ ap (λ (l : List ℕ). fault_at_end l a.all.outcome) (sym a.kept);
          stopped = a.stopped;
          unfilled = a.unfilled;
          ended = a.all.ended;
          refused_in = λ fault e.
              subst (λ (l : List ℕ). IsRefusedIn (packets_of run) limits (done_of new) l (number_of (run.packet (source_of new)))) (sym a.kept)
              (refused_there run.packets run.packet limits new.reader a.all.rest a.all.read_all a.all.shows_last fault (packets_of run) known_new a.all.outcome a.all.outcome_is (sym e ∙ a.all.fault_is));
          behind = λ fault e number is.
              subst (λ (l : List ℕ). IsAllBehind run l number (done_of new)) (sym a.kept)
              (behind_there run.packets run.packet limits new.reader a.all.rest a.all.read_all a.all.shows_last fault (packets_of run) known_new a.all.outcome a.all.outcome_is (sym e ∙ a.all.fault_is) number is);
        }

    -- up to a fault
    pub at_fault : (counted : Counted) (fault : Fault) → counted.fault ≡ Some fault → RawHandsOn run.left run.calls run.failures run.packets run.packet takes leaves full run.settings.limits tally.count mid new s1 s2 (Ok counted)
        → HandsRawOn run.left run.calls run.failures run.packets run.packet takes leaves full run.settings.limits tally.count counted mid new s1 s2
    at_fault counted fault is hands = elim hands [ inl all ↦ all | inr enough ↦ absurd (let both = sym is ∙ enough.fault_is in cc) ]

    -- no more is wanted
    pub reach_enough : (tally.passed ≡ 0 → (source_of mid ≡ source_of run.old) × (tally.size ≡ 0)) → (counted : Counted) (up : Tally) → up ≡ record tally { count = counted.count; size = counted.size }
        → HandsEnough run.left run.calls run.failures run.packets run.packet takes leaves full run.settings.limits tally.count counted mid new s1 s2 → HasEnough run takes full new up s2
    reach_enough first counted up is a =
        let items = a.items in
        let more = a.messages in
        let size : counted.size ≡ sizes_of h.parts + sizes items = omega (arith, a.size_is, h.done) in
        let came = subst (λ (l : List ℕ). takes run.s0 s2 (h.messages ++ more) l) (append-nil h.told) (laws.joins run.s0 s1 s2 h.messages more h.told [] h.came a.taken) in
        let placed = a.placed (packets_of run) known in
        let none : items ≡ [] → h.parts ≡ [] = λ e.
        let no_messages : more ≡ [] = subst (λ (l : List CutMessage). ArePlaced (packets_of run) (tally.count + 1) (done_of mid) (wholes l) more) e placed in
        h.unfilled (sym (laws.still s1 s2 [] (subst (λ (l : List Placed). takes s1 s2 l []) no_messages a.taken)) ∙ a.enough) in
        record {
          parts = h.parts ++ wholes items;
          told = h.told;
          covered = covered_next items (kept new) (kept new) refl a.read;
          tally_is = is ∙ wholes_tally h.parts items counted.count counted.size tally h.tally_is a.count_is size;
          failed = a.failed ∙ h.failed;
          messages = h.messages ++ more;
          placed = placed_next items more placed;
          came = came;
          wanted = wanted_next laws run.s0 s1 h.messages h.told h.came more h.wanted a.wanted;
          last = ends_whole h.parts items none;
          enough = a.enough;
          needed = reads_enough first items a.read.bytes a.read.messages none a.needed;
        }

    -- not all
    abbrev Handing : Cause → Type 0
    Handing cause = HandsSomeOn gathering run.left run.calls run.settings.limits (kept mid) run.failures takes leaves full tally.count (HasKnownPackets run.packets run.packet mid) cause mid.reader new.reader s1 s2

    stops_some : (cause : Cause) (s : Handing cause) → More run (Fills run takes full) new (ByCause cause) (h.parts ++ wholes s.items) s.rest (h.messages ++ s.messages) [] → Stopped run new (ByCause cause)
        → Within run takes leaves full new (ByCause cause) s2
    stops_some cause s all caused =
        let came = subst (λ (l : List ℕ). leaves run.s0 s2 (h.messages ++ s.messages) l (ByCause cause)) (append-nil h.told)
        (laws.leaves_after run.s0 s1 s2 h.messages s.messages h.told [] (ByCause cause) h.came s.given_up) in
        stops_plain run takes leaves full cause new (h.parts ++ wholes s.items) s.rest h.told s2 (covered_next s.items s.rest s.rest refl s.read) (h.messages ++ s.messages) all caused
        (placed_next s.items s.messages (s.placed (packets_of run) known)) (wanted_next laws run.s0 s1 h.messages h.told h.came s.messages h.wanted s.wanted)
        (λ reads. filled_next laws run.s0 s1 h.messages h.told h.came s.messages false (s.unfilled reads)) came

    pub stop_hand : (cause : Cause) → Handing cause → Within run takes leaves full new (ByCause cause) s2
    stop_hand Memory s = stops_some Memory s (inl refl) (s.caused ∙ h.failed)
    stop_hand ReadFailed s = stops_some ReadFailed s (inl (s.all, refl)) (s.caused ∙ ap one_more h.failed)
    stop_hand WriteFailed s = stops_some WriteFailed s refl (s.caused ∙ h.failed)
    stop_hand TooManyReads s =
        let covered = covered_next s.items s.rest s.rest refl s.read in
        stops_some TooManyReads s (inl (s.all, refl)) (s.caused.0 ∙ h.failed, all_called run new (h.parts ++ wholes s.items) s.rest h.told covered s.caused.1)
