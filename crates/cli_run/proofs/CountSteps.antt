-- The messages of a source are counted as if they were handed to a visitor that makes nothing of
-- them.
use Rattle.std.proofs.Common.{◌≡◌, ℕ, ◌+◌, ◌-◌, Bool, false, true, List, [], ◌∷◌, ◌++◌, Option, None, Some, Result, Ok, Err, length, length-append, refl, sym, ◌∙◌, inl, inr, arith, subst, ap}
use Rattle.std.proofs.Math.Path.{transport}
use Rattle.std.specs.Io.KnownBytes.{IsAtEnd}
use Rattle.std.proofs.lemmas.Bool.{false≢true, or_parts}
use Rattle.dbus_value_model.specs.declared.fault.Fault.{Fault}
use Rattle.dbus_value_model.specs.declared.limits.Limits.{Limits}
use Rattle.dbus_device.specs.Device.{RisesBy}
use Rattle.dbus_device.specs.Packets.{Packets}
use Rattle.dbus_device.specs.declared.packet.Packet.{Packet}
use Rattle.dbus_stream.specs.CheckReading.{CheckAnswers, CheckReader, limits_of, lengths}
use Rattle.dbus_stream.specs.Cut.{CutMessage}
use Rattle.dbus_stream.specs.CutEnds.{fault_at_end, sizes}
use Rattle.dbus_stream.specs.Reading.{IsNewReader, done_of, last_of, most_reads_of, part_of, read_of, source_of}
use Rattle.dbus_stream.specs.declared.read_fault.ReadFault.{ReadFault}
use Rattle.dbus_stream.specs.declared.read_fault.ReadFault.TheVariants as read
use Rattle.dbus_stream.proofs.FaultPackets.{partial_take, shows_last}
use Rattle.dbus_stream.proofs.NextSteps.{both_ways}
use Rattle.cli_options.specs.Limiting.{ask_more}
use Rattle.cli_options.specs.declared.selection.Selection.{Selection}
use Rattle.cli_options.specs.declared.settings.Settings.{Settings}
use Rattle.cli_report.specs.Devices.{Reading, Taken, reading, taken}
use Rattle.cli_report.specs.Telling.{line_of}
use Rattle.cli_report.specs.declared.telling.RefusedMessage.{RefusedMessage}
use Rattle.cli_report.specs.declared.ending.Cause.{Cause}
use Rattle.cli_report.specs.declared.ending.Cause.TheVariants.{Memory, ReadFailed, WriteFailed, TooManyReads}
use Rattle.dbus_count.specs.Tables.{IsSummary}
use Rattle.dbus_count.specs.declared.form.Form.{Form}
use Rattle.cli_run.specs.ByName.{CountsState, EndsCounts, MakesCounts, Tallies, counting, counts_after, first_counts, span_of}
use Rattle.cli_run.specs.Going.{Covers, IsMore, IsStopOf, IsToldIn, IsToldLast}
use Rattle.cli_run.specs.Onward.{HasPacketsIf, HasRead, HandsAllOn, HandsOn, HandsSomeOn}
use Rattle.cli_run.specs.Needed.{IsReadFor, IsUnshown, ReadsToSee}
use Rattle.cli_run.specs.Refusals.{IsFaultIn, IsRefusedIn, number_of}
use Rattle.cli_run.specs.Inputs.{Placed, looked_in, sizes_of, wholes}
use Rattle.cli_run.specs.Learning.{AreSelected, known}
use Rattle.cli_run.specs.Output.{fault_line}
use Rattle.cli_run.specs.Told.{IsUnwritten}
use Rattle.cli_run.specs.Visiting.{AddsUp, WantsAll}
use Rattle.cli_run.specs.declared.counted.Counted.{Counted}
use Rattle.cli_run.specs.declared.visitor.RunStop.{RunStop}
use Rattle.cli_run.specs.declared.visitor.RunStop.TheVariants.{Cause as ByCause}
use Rattle.cli_run.proofs.GoSteps.{wholes_tally}
use Rattle.cli_run.proofs.HandSteps.{Faults}
use Rattle.cli_run.proofs.KnownPackets.{refused_there}
use Rattle.cli_run.proofs.Outputs.{selects_or}
use Rattle.cli_run.proofs.PartLaws.{is_last, parts_of, reach_wholes, sizes-wholes, some_placed, told_of}
use Rattle.cli_run.proofs.Wanted.{wanted_all}

-- what the counting keeps of messages is their number, which the loop counts
abbrev pub counts : (a b : Unit {0}) → List Placed → (told : List ℕ) → Type 0
counts a b items told = Unit {0}

abbrev pub gives_up : (a b : Unit {0}) → List Placed → (told : List ℕ) → RunStop → Type 0
gives_up a b items told stop = IsUnwritten stop

-- all are wanted
abbrev pub never_full : Unit {0} → Bool
never_full a = false

pub adds_up : AddsUp counts gives_up (λ _. Unit {0}) never_full
adds_up = record {
  still = λ a b p t. refl;
  nothing = λ a. tt;
  joins = λ a b c s t p q h k. tt;
  leaves_after = λ a b c s t p q stop h k. k;
  rests = λ a b s p h settled. (tt, tt, tt);
}

-- nothing is made of their times, so nothing need be known of the packets
abbrev pub none_known : Option Packets → Type 0
none_known packets = ⊥

-- all that was read and not given is kept
pub read_kept : {R : Type 0} (w held : List ℕ) (new : CheckReader R) → new.held ≡ length held → w ≡ held ++ part_of new → read_of new ≡ done_of new + length w
read_kept w held new size bytes =
    let all = ap length bytes in
    let both = length-append held (part_of new) in
    omega (arith, all, both, size)

-- what a fault of the reader says of the bytes that it keeps
pub check_faults : {R : Type 0} (w : List ℕ) (mid new : CheckReader R) (fault : ReadFault) → CheckAnswers w mid new (Err fault) → Faults lengths w mid new fault
check_faults w mid new read.Memory a = tt
check_faults w mid new (read.Format fault) a = elim a.2 [
  | inl r ↦ (a.0, inl r.refused, read_kept w r.held new r.size r.bytes, shows_last (limits_of mid) new w r.held r.bytes r.unshown)
  | inr s ↦ (a.0, inr (s.0, s.1), read_kept w s.2.kept.held new s.2.kept.size s.2.kept.bytes, partial_take (limits_of mid) (length w - last_of new) w s.0.1)
]
check_faults w mid new read.Device a = a.2
check_faults w mid new read.TooManyReads a = (a.2, a.3)

-- nothing is told of the fault but its line
told_last : (packets : Option Packets) (settings : Settings) (n offset : ℕ) (rest : List ℕ) (fault : Option Fault) (packet : Option ℕ) → settings.as_json ≡ false → settings.explains ≡ false → settings.keeps_going ≡ false
    → IsFaultIn packets settings.limits offset rest fault packet → IsToldLast packets settings n offset rest fault (fault_line offset fault packet)
told_last packets settings n offset rest None packet in_words explains halts there = refl
told_last packets settings n offset rest (Some fault) packet in_words explains halts there =
    let refusal : RefusedMessage = record { number = n; offset = offset; fault = fault; packet = packet } in
    (packet, there, transport (λ i. IsToldIn (sym in_words i) (sym halts i) (sym explains i) settings.limits refusal rest (line_of false refusal)) refl)

-- of a new reader, which keeps nothing
module _ {R : Type 0} (left : R → Option (List ℕ)) (calls failures : R → ℕ) (packets : R → Option Packets) (packet : R → Option Packet) (old new : CheckReader R)
    (is : IsNewReader lengths (source_of old) (most_reads_of old) (limits_of old) old) (known : HasPacketsIf packets packet new (packets (source_of old))) (settings : Settings) (no_more : ask_more settings ≡ false) where
  abbrev Own : Reading R
  Own = reading left calls failures packets (source_of old) (source_of new)

  abbrev Took : Taken
  Took = taken Own

  -- the packet of the bytes that were read last
  abbrev packet_last : Option ℕ
  packet_last = number_of (packet (source_of new))

  fault_there : (counted : Counted) (a : HandsAllOn lengths left calls settings.limits [] failures counts gives_up never_full 0 none_known counted old new tt tt) → IsFaultIn (packets (source_of old)) settings.limits counted.size a.rest counted.fault packet_last
  fault_there counted a = by_fault counted.fault a.fault_is
    where
      by_fault : (fault : Option Fault) → fault ≡ fault_at_end a.rest a.outcome → IsFaultIn (packets (source_of old)) settings.limits counted.size a.rest fault packet_last
      by_fault None e = tt
      by_fault (Some fault) e =
          subst (λ (n : ℕ). IsRefusedIn (packets (source_of old)) settings.limits n a.rest packet_last) a.done
          (refused_there packets packet settings.limits new a.rest a.read_all a.shows_last fault (packets (source_of old)) known a.outcome a.outcome_is e)

  plain_told : ((settings.as_json ≡ false) × (settings.explains ≡ false)) × (settings.keeps_going ≡ false)
  plain_told = let two = or_parts _ _ (or_parts _ _ no_more).0 in (or_parts _ _ two.0, two.1)

  covers : (items : List CutMessage) (rest : List ℕ) → HasRead lengths left calls settings.limits [] old new items rest → Covers Took settings (most_reads_of old) true (wholes items) rest []
  covers items rest h = record {
    bytes = h.bytes;
    consumed = h.consumed;
    called = (h.count, omega (arith, h.reads, h.most_reads, is.reads, new.few_reads), h.called);
    begin = parts_of settings.limits h.bytes items rest h.messages;
    ends = λ reached. absurd (false≢true (sym (reach_wholes items) ∙ reached));
    tells = told_of (packets (source_of old)) settings 1 0 0 items;
  }

  abbrev HandsSome : Cause → Type 0
  HandsSome cause = HandsSomeOn lengths left calls settings.limits [] failures counts gives_up never_full 0 none_known cause old new tt tt

  some_tallied : (cause : Cause) (s : HandsSome cause) → ((messages : List Placed) → IsMore Took settings (most_reads_of old) true WantsAll (ByCause cause) (wholes s.items) s.rest messages []) → IsStopOf Took (most_reads_of old) (ByCause cause)
      → Tallies Own settings (most_reads_of old) packet_last (Err cause)
  some_tallied cause s all caused =
      let some = some_placed Took.packets 1 0 (wholes s.items) in
      record {
        parts = wholes s.items;
        rest = s.rest;
        told = [];
        covers = covers s.items s.rest s.read;
        messages = some.0;
        placed = some.1;
        wanted = wanted_all WantsAll (λ l. refl) [] some.0;
        unfilled = λ _. refl;
        more = [];
        all = all some.0;
        caused = caused;
        came = (s.given_up, refl);
      }

  -- a read was made only if what had come of the rest shows no fault
  seen : (counted : Counted) (a : HandsAllOn lengths left calls settings.limits [] failures counts gives_up never_full 0 none_known counted old new tt tt) → ReadsToSee settings counted.fault (wholes a.items) a.rest (IsReadFor Own)
  seen counted a = λ _. elim a.needed [
    | inl none ↦ inl (inl none)
    | inr (before, between, came, last, unshown) ↦ (
        let bare : 0 + length before ≡ length before = omega arith in
        let there = transport (λ i. IsUnshown settings.limits (sym (sizes-wholes a.items) i) a.rest (bare i)) unshown in
        inr (length before, inr there, inr (before, between, came, last, omega arith))
        )
  ]

  tallies : (res : Result Counted Cause) → HandsOn lengths left calls settings.limits [] failures counts gives_up never_full 0 none_known old new tt tt res → Tallies Own settings (most_reads_of old) packet_last res
  tallies (Ok counted) a =
      let size : counted.size ≡ sizes a.items = omega (arith, a.size_is, is.done) in
      let told = told_last (packets (source_of old)) settings (length (wholes a.items) + 1) counted.size a.rest counted.fault packet_last plain_told.0.0 plain_told.0.1 plain_told.1 (fault_there counted a) in (
        record {
          parts = wholes a.items;
          rest = a.rest;
          covers = covers a.items a.rest a.read;
          cut = None;
          tally_is = wholes_tally [] a.items counted.count counted.size _ refl (omega (arith, a.count_is)) (omega (arith, size));
          tells = record {
            outcome = a.outcome;
            outcome_is = a.outcome_is;
            fault_is = a.fault_is;
            told = subst (λ n. IsToldLast (packets (source_of old)) settings (length (wholes a.items) + 1) n a.rest counted.fault (fault_line counted.size counted.fault packet_last)) (size ∙ sym (sizes-wholes a.items)) told;
          };
          last = is_last (packets (source_of old)) settings settings.limits (sizes_of (wholes a.items)) (looked_in (wholes a.items)) a.rest a.outcome (IsAtEnd (left (source_of new))) plain_told.1
              (λ none. a.read.at_end (λ e. absurd (both_ways _ e is.ended)) (a.ended none));
          read_failed = a.failed;
        },
        seen counted a,
      )
  tallies (Err Memory) s = some_tallied Memory s (λ _. inl refl) s.caused
  tallies (Err ReadFailed) s = some_tallied ReadFailed s (λ _. inl (s.all, refl)) s.caused
  tallies (Err WriteFailed) s = absurd s.given_up
  tallies (Err TooManyReads) s =
      let all : s.read.count ≡ most_reads_of old = omega (arith, s.caused.1, s.read.reads, s.read.most_reads, is.reads) in
      some_tallied TooManyReads s (λ _. inl (s.all, refl)) (s.caused.0, subst (λ n. RisesBy n Took.calls0 Took.calls1) all s.read.called)

  pub tallied : settings.limits ≡ limits_of old → (res : Result Counted Cause) → HandsOn lengths left calls (limits_of old) [] failures counts gives_up never_full 0 none_known old new tt tt res
      → Tallies Own settings (most_reads_of old) packet_last res
  tallied same res h = tallies res (subst (λ (l : Limits). HandsOn lengths left calls l [] failures counts gives_up never_full 0 none_known old new tt tt res) (sym same) h)

-- What is made of a message, and how a run ends, if messages are counted by their names.

pub counts_one : (was : CountsState) (item : Placed) (selected : List Placed) → AreSelected was.selection was.owners (item ∷ []) selected → (P : CountsState → List ℕ → Type 0) → P (counts_after was (item ∷ []) selected) []
    → (s : CountsState) → s ≡ was → (t : CountsState) × (text : List ℕ) × MakesCounts s (item ∷ []) text t × P t text
counts_one was item selected are P p s there =
    subst (λ (x : CountsState). (t : CountsState) × (text : List ℕ) × MakesCounts x (item ∷ []) text t × P t text) (sym there)
    (counts_after was (item ∷ []) selected, [], record { selected = selected; are = are; none = refl; then = refl }, p)

-- whether it is selected or not
pub counts_some : (s : CountsState) (item : Placed) → (t : CountsState) × (text : List ℕ) × MakesCounts s (item ∷ []) text t × Unit {0}
counts_some s item = elim (selects_or s.selection s.owners item.item.message) [
  | inl is ↦ counts_one s item (item ∷ []) ([], refl, inl (is, refl)) (λ t text. Unit {0}) tt s refl
  | inr not ↦ counts_one s item [] ([], refl, inr (not, refl)) (λ t text. Unit {0}) tt s refl
]

-- the counts and the span are those of the messages that are selected
pub counts_all : (form : Form) (selection : Option Selection) (items : List Placed) (t : CountsState) (text last note : List ℕ) → MakesCounts (first_counts form selection) items text t → EndsCounts t last note
    → (selected : List Placed) × AreSelected selection (known selection None) items selected × IsSummary form (counting selected) (span_of selected) last × (note ≡ [])
counts_all form selection items t text last note h e = (h.selected, h.are, subst (λ (x : CountsState). IsSummary x.form x.counts x.span last) h.then e.0, e.1)
