-- How a run ends that neither explains refused messages nor passes over them. What it promises by
-- parts is said of messages here.
use Rattle.std.proofs.Common.{◌≡◌, ◌≢◌, ℕ, zero, ◌+◌, List, [], ◌∷◌, ◌++◌, Bool, false, true, None, Some, Option, length, drop, refl, sym, ap, ◌∙◌, subst, append-nil, append_assoc, inl, inr}
use Rattle.std.proofs.Math.Path.{transport}
use Rattle.std.proofs.lemmas.Bool.{false≢true}
use Rattle.std.proofs.lemmas.List.{length-map}
use Rattle.std.specs.List.{concat}
use Rattle.std.specs.Io.KnownBytes.{Appends, IsAtEnd}
use Rattle.dbus_value_model.specs.declared.fault.Fault.{Fault}
use Rattle.dbus_value_model.specs.declared.limits.Limits.{Limits}
use Rattle.dbus_header.specs.MessageOutcomes.{IsPartial}
use Rattle.dbus_device.specs.Device.{Wrote, Stopped}
use Rattle.dbus_device.specs.Packets.{Packets}
use Rattle.dbus_stream.specs.Cut.{CutMessage, BeginWith, CutOutcome, Ended, Unfinished, Refused, IsOutcome, IsCut}
use Rattle.dbus_stream.specs.CutEnds.{fault_at_end, sizes}
use Rattle.dbus_stream.proofs.CutLaws.{BeginWith-first, IsCut-one}
use Rattle.cli_options.specs.Limiting.{ask_more}
use Rattle.cli_options.specs.declared.command.Command.{Command}
use Rattle.cli_options.specs.declared.file_form.FileForm.TheVariants.{Raw}
use Rattle.cli_options.specs.declared.command.Output.{Output}
use Rattle.cli_options.specs.declared.command.Output.TheVariants.{Nothing}
use Rattle.cli_options.specs.declared.settings.Settings.{Settings}
use Rattle.cli_options.specs.declared.window.Window.{Window}
use Rattle.cli_run.specs.Running.{Answers, CountsWrite, Fails, TellsLine, WritesBefore, WritesMessages, Runs, RunsWith, Writes, WritesSome}
use Rattle.cli_report.specs.Devices.{Reading, Writing, taken, writing}
use Rattle.cli_run.specs.Going.{AreDue, GoesThrough, IsAllOf, IsThrough, StopsWithin, AreTold, IsToldLast, closing_line, passed_count, status_at, tally_of, tally_with}
use Rattle.cli_report.specs.Gathering.{Breaks, IsPrefixTo}
use Rattle.cli_report.specs.Telling.{cause_line, Told}
use Rattle.cli_run.specs.Inputs.{ArePlaced, BeginWithParts, IsLast, IsTellable, Part, PassedOver, Placed, Whole, looked_in, sizes_of, wholes}
use Rattle.cli_run.specs.Output.{IsFirstOutput, IsFront, IsOutputOfAll, check_line, fault_line, form_of, header_before, is_check, last_line, output_of, second_output, whole_output}
use Rattle.cli_run.specs.Learning.{known}
use Rattle.cli_run.specs.Refusals.{IsFaultIn}
use Rattle.cli_run.specs.Told.{GotFirst, GotSecond, TellsStop, first_of, second_of}
use Rattle.cli_run.specs.Making.{FillsFrom}
use Rattle.cli_run.specs.Needed.{IsReadFor, ReadsOnlyIf, ReadsToSee, WantToSee}
use Rattle.cli_run.specs.Rendering.{Makes, first_state, is_full}
use Rattle.cli_run.specs.RenderingLaws.{no_header, no_texts}
use Rattle.cli_run.specs.VisitorLaws.{first_nothing, second_nothing, wrote_both, wrote_stopped}
use Rattle.cli_report.specs.declared.ending.ExitStatus.{ExitStatus}
use Rattle.cli_report.specs.declared.ending.ExitStatus.TheVariants as status
use Rattle.cli_report.specs.declared.ending.Cause.{Cause}
use Rattle.cli_report.specs.declared.ending.Cause.TheVariants.{Memory, WriteFailed}
use Rattle.cli_run.specs.declared.tally.Tally.{Tally}
use Rattle.cli_run.specs.declared.visitor.RunStop.{RunStop}
use Rattle.cli_run.specs.declared.visitor.RunStop.TheVariants.{Cause as ByCause, Untold}
use Rattle.cli_run.proofs.Outputs.{front_of_first}
use Rattle.cli_run.proofs.PartLaws.{line_is, sizes-wholes}
use Rattle.cli_run.proofs.SameOutputs.{none_last}
use Rattle.cli_run.proofs.OutputSteps.{written_all}

-- the window that leaves nothing out
abbrev all_of_them : (checks_rest : Bool) → Window
all_of_them checks_rest = record { skip = 0; limit = None; checks_rest = checks_rest }

-- settings that ask for no more than limits and a handshake
abbrev plain : Settings → Settings
plain asked = record asked { as_json = false; explains = false; keeps_going = false; window = all_of_them asked.window.checks_rest }

-- by them a command wants all messages
abbrev Filled : Settings → Command → List Placed → Bool → Type 0
Filled asked command = FillsFrom Makes (first_state command (plain asked).window) is_full

never_filled : (asked : Settings) (command : Command) (items : List Placed) → Filled asked command items true → ⊥
never_filled asked command items filled = false≢true (ap is_full (sym filled.2.then) ∙ filled.3)

-- `check` makes no texts, and its line goes to the first writer. Of another command the line goes
-- to the second
first_due : (checks_rest : Bool) (command : Command) (items : List Placed) (texts : List (List ℕ)) (line : List ℕ) → IsOutputOfAll command (known command.selection None) items texts
    → first_of (is_check command.output) (output_of (form_of command.output) false (all_of_them checks_rest) items texts) line ≡ whole_output (form_of command.output) items texts ++ first_of (is_check command.output) [] line
first_due checks_rest command items texts line made = by_output command.output refl
  where
    by_output : (output : Output) → command.output ≡ output → first_of (is_check output) (output_of (form_of output) false (all_of_them checks_rest) items texts) line ≡ whole_output (form_of output) items texts ++ first_of (is_check output) [] line
    by_output Nothing is =
        let none : whole_output Raw items texts ≡ [] = λ i. no_header false items i ++ concat (no_texts command is (known command.selection None) items texts made i) in
        ap (λ (l : List ℕ). l ++ line) (sym none)
    by_output output is = ap (λ l. header_before (form_of output) false items ++ l) (written_all checks_rest texts) ∙ sym (append-nil (whole_output (form_of output) items texts))

-- of what is told at the end: of `check` one line, and of another command no last line
module _ (packet : Option ℕ) where
  first_line : (is_check : Bool) (t : Tally) (fault : Option Fault) → first_of is_check [] (fault_line t.size fault packet ++ closing_line false is_check false t 0 fault) ≡ first_of is_check [] (check_line t.count t.size fault packet)
  first_line true t fault = line_is t fault packet
  first_line false t fault = refl

  second_line : (is_check : Bool) (t : Tally) (fault : Option Fault) → second_of is_check (fault_line t.size fault packet ++ closing_line false is_check false t 0 fault) ≡ second_of is_check (fault_line t.size fault packet)
  second_line true t fault = refl
  second_line false t None = refl
  second_line false t (Some fault) = append-nil (fault_line t.size (Some fault) packet)

-- nothing was passed over, so the parts are messages
record AreMessages (limits : Limits) (bytes : List ℕ) (parts : List Part) (rest told : List ℕ) : Type 0 where
  items : List CutMessage
  messages : BeginWith limits bytes items rest
  parts_are : parts ≡ wholes items
  none_told : told ≡ []
  none_passed : passed_count parts ≡ 0

are_messages : (packets : Option Packets) (asked : Settings) (n offset looked : ℕ) (bytes : List ℕ) (parts : List Part) (rest told : List ℕ) → BeginWithParts asked.limits bytes parts rest
    → AreTold packets (plain asked) n offset looked parts told → AreMessages asked.limits bytes parts rest told
are_messages packets asked n offset looked bytes [] rest told b t = record { items = []; messages = b; parts_are = refl; none_told = t; none_passed = refl }
are_messages packets asked n offset looked bytes (Whole item ∷ parts) rest told b t =
    let more = are_messages packets asked (n + 1) (offset + item.size) looked (drop item.size bytes) parts rest t.1 b.1 t.4 in
    record {
      items = item ∷ more.items;
      messages = (b.0, more.messages);
      parts_are = ap (λ l. Whole item ∷ l) more.parts_are;
      none_told = t.2 ∙ (λ i. t.3 i ++ more.none_told i);
      none_passed = more.none_passed;
    }
are_messages packets asked n offset looked bytes (PassedOver front fault by size ∷ parts) rest told b t = absurd (false≢true t.3.0)

-- then another command has no last line
no_closing : (is_check : Bool) (tally : Tally) (fault : Option Fault) → is_check ≡ false → tally.passed ≡ 0 → closing_line false is_check false tally tally.passed fault ≡ []
no_closing is_check tally None other none = λ i. closing_line false (other i) false tally (none i) None
no_closing is_check tally (Some fault) other none = λ i. closing_line false (other i) false tally (none i) (Some fault)

-- without a fault that bytes show all was read, and nothing is passed over at the end
last_plain : (packets : Option Packets) (cut : Option (Option ℕ)) (asked : Settings) (limits : Limits) (offset looked : ℕ) (rest : List ℕ) (outcome : CutOutcome) (at_end : Type 0) → IsLast packets cut (plain asked) limits offset looked rest outcome at_end
    → (((f : Fault) → outcome ≡ Refused f → ⊥) → at_end) × (cut ≡ None)
last_plain packets None asked limits offset looked rest (Refused fault) at_end last = (λ none. absurd (none fault refl), refl)
last_plain packets None asked limits offset looked rest Unfinished at_end last = (λ _. last.0, refl)
last_plain packets None asked limits offset looked rest Ended at_end last = (λ _. last, refl)
last_plain packets (Some by) asked limits offset looked rest (Refused fault) at_end last = absurd (false≢true last.2)
last_plain packets (Some by) asked limits offset looked rest Unfinished at_end last = absurd last
last_plain packets (Some by) asked limits offset looked rest Ended at_end last = absurd last

-- what shows of a fault ends a run that is not to go on
last_shown : (packets : Option Packets) (asked : Settings) (limits : Limits) (offset looked : ℕ) (rest : List ℕ) (outcome : CutOutcome) (at_end : Type 0) → IsTellable outcome at_end → IsLast packets None (plain asked) limits offset looked rest outcome at_end
last_shown packets asked limits offset looked rest (Refused fault) at_end shown = λ goes. absurd (false≢true goes)
last_shown packets asked limits offset looked rest Unfinished at_end shown = (shown, λ goes. absurd (false≢true goes))
last_shown packets asked limits offset looked rest Ended at_end shown = shown

-- the line of the fault is told, with its packet
told_line : (packets : Option Packets) (asked : Settings) (n offset : ℕ) (rest text : List ℕ) (fault : Option Fault) → IsToldLast packets (plain asked) n offset rest fault text
    → (packet : Option ℕ) × IsFaultIn packets asked.limits offset rest fault packet × (text ≡ fault_line offset fault packet)
told_line packets asked n offset rest text None told = (None, tt, told)
told_line packets asked n offset rest text (Some fault) told = told

module _ {R W E : Type 0} (r : Reading R) (w : Writing W) (e : Writing E) (asked : Settings) (most : ℕ) (command : Command) where
  abbrev limits : Limits
  limits = asked.limits

  abbrev packets : Option Packets
  packets = r.packets r.old

  abbrev AreOutput : List Placed → List (List ℕ) → Type 0
  AreOutput handed texts = IsOutputOfAll command (known command.selection None) handed texts

  -- what the first writer gets of the texts, and of what is told
  abbrev first_part : List Placed → List (List ℕ) → List ℕ → List ℕ
  first_part handed texts told = first_of (is_check command.output) (output_of (form_of command.output) false (plain asked).window handed texts) told

  -- what is made of messages by these texts
  abbrev all_of : List Placed → List (List ℕ) → List ℕ
  all_of handed texts = whole_output (form_of command.output) handed texts

  -- all messages were handed on
  module _ {tally : Tally} {fault : Option Fault} {told text : List ℕ} (h : IsThrough (taken r) (plain asked) most (is_check command.output) tally fault told text) where
    abbrev closing : List ℕ
    closing = closing_line false (is_check command.output) false tally tally.passed fault

    messages : AreMessages limits h.covers.bytes h.parts h.rest told
    messages = are_messages packets asked 1 0 0 h.covers.bytes h.parts h.rest told h.covers.begin h.covers.tells

    abbrev last_fault : Option Fault
    last_fault = fault_at_end h.rest h.tells.outcome

    fault_told : (packet : Option ℕ) × IsFaultIn packets limits (sizes_of h.parts) h.rest fault packet × (text ≡ fault_line (sizes_of h.parts) fault packet)
    fault_told = told_line packets asked (length h.parts + 1) (sizes_of h.parts) h.rest text fault h.tells.told

    -- the packet of its fault
    abbrev last_packet : Option ℕ
    last_packet = fault_told.0

    abbrev last_of : List ℕ
    last_of = last_line command (length messages.items) (sizes messages.items) last_fault last_packet

    abbrev line_of : List ℕ
    line_of = second_output command (sizes messages.items) last_fault last_packet

    last_is : (((f : Fault) → h.tells.outcome ≡ Refused f → ⊥) → IsAtEnd (r.left r.new)) × (h.cut ≡ None)
    last_is = last_plain packets h.cut asked limits (sizes_of h.parts) (looked_in h.parts) h.rest h.tells.outcome (IsAtEnd (r.left r.new)) h.last

    -- no message is passed over
    tally_is : tally ≡ tally_of h.parts
    tally_is = h.tally_is ∙ ap (λ (b : Option (Option ℕ)). tally_with b h.parts h.rest) last_is.1

    fault_is : fault ≡ last_fault
    fault_is = h.tells.fault_is

    passed_is : tally.passed ≡ 0
    passed_is = ap (λ (t : Tally). t.passed) tally_is ∙ messages.none_passed

    count_is : tally.count ≡ length messages.items
    count_is = ap (λ (t : Tally). t.count) tally_is ∙ (ap (λ l. length l) messages.parts_are ∙ length-map messages.items Whole)

    size_is : tally.size ≡ sizes messages.items
    size_is = ap (λ (t : Tally). t.size) tally_is ∙ (ap sizes_of messages.parts_are ∙ sizes-wholes messages.items)

    packet_is : IsFaultIn packets limits (sizes messages.items) h.rest last_fault last_packet
    packet_is =
        let place : sizes_of h.parts ≡ sizes messages.items = ap (λ (t : Tally). t.size) (sym tally_is) ∙ size_is in
        transport (λ i. IsFaultIn packets limits (place i) h.rest (fault_is i) last_packet) fault_told.1

    all_due : (told ++ text) ++ closing ≡ fault_line tally.size fault last_packet ++ closing_line false (is_check command.output) false tally 0 fault
    all_due =
        let line = fault_told.2 ∙ ap (λ (t : Tally). fault_line t.size fault last_packet) (sym tally_is) in
        λ i. (messages.none_told i ++ line i) ++ closing_line false (is_check command.output) false tally (passed_is i) fault

    second_is : second_of (is_check command.output) ((told ++ text) ++ closing) ≡ line_of
    second_is = ap (second_of (is_check command.output)) all_due ∙ (second_line last_packet (is_check command.output) tally fault ∙ (λ i. second_of (is_check command.output) (fault_line (size_is i) (fault_is i) last_packet)))

    cut : IsCut limits h.covers.bytes messages.items h.rest h.tells.outcome
    cut = record { messages = messages.messages; outcome_is = h.tells.outcome_is }

    -- and these texts were made of them
    module _ (handed : List Placed) (placed : ArePlaced packets 1 0 h.parts handed) (texts : List (List ℕ)) (made : AreOutput handed texts) where
      first_is : first_part handed texts ((told ++ text) ++ closing) ≡ all_of handed texts ++ last_of
      first_is =
          first_due asked.window.checks_rest command handed texts ((told ++ text) ++ closing) made
          ∙ ap (λ l. all_of handed texts ++ l) (ap (first_of (is_check command.output) []) all_due ∙ (first_line last_packet (is_check command.output) tally fault
          ∙ (λ i. first_of (is_check command.output) [] (check_line (count_is i) (size_is i) (fault_is i) last_packet))))

      output : IsFirstOutput packets command messages.items last_fault last_packet (all_of handed texts ++ last_of)
      output = record { messages = handed; placed = subst (λ (l : List Part). ArePlaced packets 1 0 l handed) messages.parts_are placed; texts = texts; each = made; joined = refl }

      answers : (end : ExitStatus) → (end ≢ status.Failed → ReadsOnlyIf (WantToSee limits h.parts h.rest) (IsReadFor r)) → Wrote w.held w.failures w.old (all_of handed texts ++ last_of) w.new → TellsLine e line_of last_fault end → Answers r w e limits most command end
      answers end reads first second = record {
        bytes = h.covers.bytes;
        items = messages.items;
        rest = h.rest;
        outcome = h.tells.outcome;
        out = all_of handed texts ++ last_of;
        consumed = h.covers.consumed;
        called = h.covers.called;
        read_failed = h.read_failed;
        cut = cut;
        at_end = last_is.0;
        reads = λ done. subst (λ (l : List Part). ReadsOnlyIf (WantToSee limits l h.rest) (IsReadFor r)) messages.parts_are (reads done);
        packet = last_packet;
        packet_is = packet_is;
        output = output;
        first = first;
        second = second;
      }

      -- a prefix of the output was written, and then a write failed
      broken : (front : List ℕ) → Breaks w.held w.failures front [] w.old w.new → IsPrefixTo front (all_of handed texts ++ last_of) → Fails r w e limits most command WriteFailed
      broken front b prefix = record {
        bytes = h.covers.bytes;
        written = b.written;
        consumed = h.covers.consumed;
        called = h.covers.called;
        appended = b.appended;
        front = λ items rest outcome other.
            let one = IsCut-one limits h.covers.bytes messages.items items h.rest rest h.tells.outcome outcome cut other in
            let all = prefix.1 ∙ (ap (λ l. l ++ prefix.0) b.front.1 ∙ append_assoc b.written b.front.0 prefix.0) in
            let first : IsFront packets limits command messages.items h.rest last_fault b.written
            = record { packet = last_packet; out = all_of handed texts ++ last_of; output = output; prefix = (b.front.0 ++ prefix.0, all); packet_is = inr packet_is } in
            transport (λ i. IsFront packets limits command (one.0 i) (one.1 i) (fault_at_end (one.1 i) (one.2 i)) b.written) first;
        before = tt;
        read_caused = h.read_failed;
        write_caused = b.failed;
      }

  ran : (end : ExitStatus) (g : GoesThrough (taken r) (plain asked) most (is_check command.output) (Filled asked command) (Writes w e (plain asked) command) end) → ReadsToSee (plain asked) g.fault g.through.parts g.through.rest (IsReadFor r) → Runs r w e limits most command end
  ran end g reads =
      let h = g.through in
      let second = subst (λ (l : List ℕ). Wrote e.held e.failures e.old l e.new) (second_is h) g.came.second in
      let first = ap (λ (l : List ℕ). first_of (is_check command.output) l ((g.told ++ g.text) ++ closing h)) g.came.made.text_is ∙ first_is h g.messages g.placed g.came.made.texts g.came.made.made in
      inl (answers h g.messages g.placed g.came.made.texts g.came.made.made end (λ _. reads (λ goes. absurd (false≢true goes))) (subst (λ (l : List ℕ). Wrote w.held w.failures w.old l w.new) first g.came.first)
      (inl (second, g.end_is ∙ (λ i. status_at (passed_is h i) (fault_is h i)))))

  -- ---- the run was given up, and before is the second writer before it was told why

  module _ (before : E) where
    abbrev Within : RunStop → Type 0
    Within stop = StopsWithin (taken r) (plain asked) most (is_check command.output) (Filled asked command) (WritesSome w (writing e.held e.failures e.old before) (plain asked) command) stop

    abbrev messages_of : (stop : RunStop) (s : Within stop) → AreMessages limits s.covers.bytes s.parts s.rest s.told
    messages_of stop s = are_messages packets asked 1 0 0 s.covers.bytes s.parts s.rest s.told s.covers.begin s.covers.tells

    -- nothing is told
    none_more : (cause : Cause) (s : Within (ByCause cause)) → s.more ≡ []
    none_more Memory s = elim s.all [
      | inl none ↦ none
      | inr some ↦ elim some [
        | inl lacks ↦ (
            let uncut = (last_plain packets lacks.2 asked limits (sizes_of s.parts) (looked_in s.parts) s.rest lacks.1.outcome _ lacks.3).1 in
            let none = ap (λ (b : Option (Option ℕ)). (tally_with b s.parts s.rest).passed) uncut ∙ (messages_of (ByCause Memory) s).none_passed in
            let faultless : lacks.0 ≡ None = elim (lacks.4 none) [ inl whole ↦ whole.0 | inr goes ↦ absurd (false≢true goes.1) ] in
            none_last (plain asked) packets (length s.parts + 1) (sizes_of s.parts) s.rest lacks.0 s.more faultless lacks.1.told
            )
        | inr seeks ↦ absurd (false≢true seeks.2)
      ]
    ]
    none_more WriteFailed s = s.all
    none_more cause s = elim s.all [ inl none ↦ none.1 | inr more ↦ elim more [ inl cut ↦ absurd (false≢true cut.4) | inr seeks ↦ absurd (false≢true seeks.2) ] ]

    none_told : (cause : Cause) (s : Within (ByCause cause)) → s.told ++ s.more ≡ []
    none_told cause s = λ i. (messages_of (ByCause cause) s).none_told i ++ none_more cause s i

    texts_alone : (cause : Cause) (s : Within (ByCause cause)) → first_part s.messages s.came.made.texts (s.told ++ s.more) ≡ all_of s.messages s.came.made.texts
    texts_alone cause s =
        ap (λ l. first_part s.messages s.came.made.texts l) (none_told cause s) ∙ (first_due asked.window.checks_rest command s.messages s.came.made.texts [] s.came.made.made
        ∙ (ap (λ l. all_of s.messages s.came.made.texts ++ l) (first_nothing (is_check command.output)) ∙ append-nil (all_of s.messages s.came.made.texts)))

    -- what the first writer got, of these texts
    got : (stop : RunStop) (s : Within stop) → GotFirst w.held w.failures (is_check command.output) stop (first_part s.messages s.came.made.texts (s.told ++ s.more)) w.old w.new
    got stop s = subst (λ (l : List ℕ). GotFirst w.held w.failures (is_check command.output) stop (first_of (is_check command.output) l (s.told ++ s.more)) w.old w.new) s.came.made.text_is s.came.first

    -- the first writer got a prefix of what is made of the messages
    some_fail : (cause : Cause) (s : Within (ByCause cause)) (front : List ℕ) → Appends (w.held w.old) (w.held w.new) front → IsPrefixTo front (all_of s.messages s.came.made.texts)
        → WritesBefore packets limits command cause s.covers.bytes front → CountsWrite cause (w.failures w.old) (w.failures w.new) → Fails r w e limits most command cause
    some_fail cause s front appended prefix before counted = record {
      bytes = s.covers.bytes;
      written = front;
      consumed = s.covers.consumed;
      called = s.covers.called;
      appended = appended;
      front = λ items rest outcome cut.
          let m = messages_of (ByCause cause) s in
          let more = BeginWith-first limits s.covers.bytes m.items items s.rest rest outcome m.messages cut.messages cut.outcome_is in
          front_of_first packets limits command m.items more.0 items rest (fault_at_end rest outcome) s.messages s.came.made.texts front more.1
          (subst (λ (l : List Part). ArePlaced packets 1 0 l s.messages) m.parts_are s.placed) s.came.made.made prefix;
      before = before;
      read_caused = s.caused;
      write_caused = counted;
    }

    -- or all of it
    all_fail : (cause : Cause) (s : Within (ByCause cause)) → Wrote w.held w.failures w.old (first_part s.messages s.came.made.texts (s.told ++ s.more)) w.new
        → WritesBefore packets limits command cause s.covers.bytes (all_of s.messages s.came.made.texts) → CountsWrite cause (w.failures w.old) (w.failures w.new) → Fails r w e limits most command cause
    all_fail cause s wrote before counted =
        some_fail cause s (all_of s.messages s.came.made.texts) (subst (λ l. Wrote w.held w.failures w.old l w.new) (texts_alone cause s) wrote).appended ([], sym (append-nil (all_of s.messages s.came.made.texts))) before counted

    all_messages : (cause : Cause) (s : Within (ByCause cause)) → IsAllOf (taken r) (plain asked) most (is_check command.output) s.parts s.rest s.more → WritesMessages packets limits command s.covers.bytes (all_of s.messages s.came.made.texts)
    all_messages cause s all =
        let m = messages_of (ByCause cause) s in
        let partial : IsPartial limits s.rest = elim all [ inl none ↦ none.0 | inr more ↦ elim more [ inl cut ↦ absurd (false≢true cut.4) | inr seeks ↦ absurd (false≢true seeks.2) ] ] in
        record {
          items = m.items;
          rest = s.rest;
          messages = m.messages;
          partial = partial;
          handed = s.messages;
          placed = subst (λ (l : List Part). ArePlaced packets 1 0 l s.messages) m.parts_are s.placed;
          texts = s.came.made.texts;
          output = s.came.made.made;
          written_is = refl;
        }

    fails : (cause : Cause) → Within (ByCause cause) → Fails r w e limits most command cause
    fails Memory s = let first = got (ByCause Memory) s in all_fail Memory s first tt first.failed
    fails WriteFailed s =
        let first = subst (λ l. Breaks w.held w.failures l [] w.old w.new) (texts_alone WriteFailed s) (got (ByCause WriteFailed) s) in
        some_fail WriteFailed s first.written first.appended first.front tt first.failed
    fails cause s = let first = got (ByCause cause) s in all_fail cause s first (all_messages cause s s.all) first.failed

    -- and the second writer the cause alone
    told_after : (cause : Cause) → Wrote e.held e.failures e.old [] before → Told e.held e.failures before e.new cause → Told e.held e.failures e.old e.new cause
    told_after cause nothing told = elim told [
      | inl all ↦ inl (wrote_both e.held e.failures [] (cause_line cause) e.old before e.new nothing all)
      | inr some ↦ inr (length {A = ℕ} [] + some.0, wrote_stopped e.held e.failures [] (cause_line cause) some.0 e.old before e.new nothing some.1)
    ]

    -- what was due when a write of it failed
    due_of : (s : Within Untold) → AreDue (taken r) (plain asked) most (is_check command.output) s.parts s.rest s.more
    due_of s = elim s.all [ inl due ↦ due | inr enough ↦ absurd (never_filled asked command s.messages enough.1) ]

    -- all was handed on, and a write of the line failed: of `check` that was to the first writer
    through : (s : Within Untold) → IsThrough (taken r) (plain asked) most (is_check command.output) (tally_of s.parts) (due_of s).0 s.told (due_of s).1
    through s = record {
      parts = s.parts;
      rest = s.rest;
      covers = s.covers;
      cut = None;
      tally_is = refl;
      tells = (due_of s).2;
      last = elim (due_of s).3 [
        | inl shown ↦ last_shown packets asked limits (sizes_of s.parts) (looked_in s.parts) s.rest (due_of s).2.outcome _ shown.0
        | inr last ↦ subst (λ (b : Option (Option ℕ)). IsLast packets b (plain asked) limits (sizes_of s.parts) (looked_in s.parts) s.rest (due_of s).2.outcome _) (last_plain packets last.0 asked limits (sizes_of s.parts) (looked_in s.parts) s.rest (due_of s).2.outcome _ last.1).1 last.1
      ];
      read_failed = s.caused;
    }

    -- and the last line after it, if it was reached
    last_due : (s : Within Untold) (cut : Option (Option ℕ)) → IsLast packets cut (plain asked) limits (sizes_of s.parts) (looked_in s.parts) s.rest (due_of s).2.outcome (IsAtEnd (r.left r.new))
        → s.more ≡ (due_of s).1 ++ closing_line false (is_check command.output) false (tally_with cut s.parts s.rest) (tally_with cut s.parts s.rest).passed (due_of s).0
        → s.more ≡ (due_of s).1 ++ closing_line false (is_check command.output) false (tally_of s.parts) (passed_count s.parts) (due_of s).0
    last_due s cut last more =
        more ∙ ap (λ (b : Option (Option ℕ)). (due_of s).1 ++ closing_line false (is_check command.output) false (tally_with b s.parts s.rest) (tally_with b s.parts s.rest).passed (due_of s).0) (last_plain packets cut asked limits (sizes_of s.parts) (looked_in s.parts) s.rest (due_of s).2.outcome _ last).1

    untold : (b : Bool) → is_check command.output ≡ b → (end : ExitStatus) → (s : Within Untold) → end ≡ status.Failed → GotFirst w.held w.failures b Untold (first_of b (output_of (form_of command.output) false (plain asked).window s.messages s.came.made.texts) (s.told ++ s.more)) w.old w.new
        → GotSecond e.held e.failures b Untold (second_of b (s.told ++ s.more)) e.old before → TellsStop e.held e.failures b Untold before e.new → Runs r w e limits most command end
    unfolding through
    untold true is end s failed first second tells =
        let h = through s in
        let last = closing h in
        let out = sym (ap (λ b. first_of b (output_of (form_of command.output) false (plain asked).window s.messages s.came.made.texts) ((s.told ++ (due_of s).1) ++ last)) is) ∙ first_is h s.messages s.placed s.came.made.texts s.came.made.made in
        let prefix : IsPrefixTo (s.told ++ s.more) (all_of s.messages s.came.made.texts ++ last_of h) = elim (due_of s).3 [
          | inl shown ↦ (last, sym out ∙ ap (λ l. (s.told ++ l) ++ last) (sym shown.1))
          | inr all ↦ ([], sym out ∙ (append_assoc s.told (due_of s).1 last ∙ (ap (λ l. s.told ++ l) (sym (last_due s all.0 all.1 all.2)) ∙ sym (append-nil (s.told ++ s.more)))))
        ] in
        inr (record { failed = failed; cause = WriteFailed; fails = broken h s.messages s.placed s.came.made.texts s.came.made.made (s.told ++ s.more) first prefix; told = told_after WriteFailed second tells })
    untold false is end s failed first second tells =
        let h = through s in
        let last = closing h in
        let none : last ≡ [] = no_closing (is_check command.output) (tally_of s.parts) (due_of s).0 is (passed_is h) in
        let more : s.more ≡ (due_of s).1 ++ last = elim (due_of s).3 [ inl shown ↦ shown.1 ∙ sym (ap (λ l. (due_of s).1 ++ l) none ∙ append-nil (due_of s).1) | inr all ↦ last_due s all.0 all.1 all.2 ] in
        let line : s.told ++ s.more ≡ line_of h
        = ap (λ l. s.told ++ l) more ∙ (sym (append_assoc s.told (due_of s).1 last) ∙ (sym (ap (λ b. second_of b ((s.told ++ (due_of s).1) ++ last)) is) ∙ second_is h)) in
        let out = sym (ap (λ b. first_of b (output_of (form_of command.output) false (plain asked).window s.messages s.came.made.texts) ((s.told ++ (due_of s).1) ++ last)) is) ∙ first_is h s.messages s.placed s.came.made.texts s.came.made.made in
        let half = subst (λ (l : List ℕ). Stopped e.held e.failures e.old l second.0 before) line second.1 in
        inl (answers h s.messages s.placed s.came.made.texts s.came.made.made end (λ done. absurd (done failed)) (subst (λ (l : List ℕ). Wrote w.held w.failures w.old l w.new) out first)
        (inr (second.0, subst (λ (x : E). Stopped e.held e.failures e.old (line_of h) second.0 x) (sym tells) half, failed)))

    stopped : (stop : RunStop) (end : ExitStatus) → Within stop → end ≡ status.Failed → TellsStop e.held e.failures (is_check command.output) stop before e.new → Runs r w e limits most command end
    stopped (ByCause cause) end s failed tells =
        let nothing = ap (λ l. second_of (is_check command.output) l) (none_told cause s) ∙ second_nothing (is_check command.output) in
        inr (record { failed = failed; cause = cause; fails = fails cause s; told = told_after cause (subst (λ l. Wrote e.held e.failures e.old l before) nothing s.came.second) tells })
    stopped Untold end s failed tells = untold (is_check command.output) refl end s failed (got Untold s) s.came.second tells

-- settings that ask for no more are these
plain_is : (asked : Settings) (as_json explains goes_on : Bool) (skip : ℕ) (limit : Option ℕ)
    → ask_more (record asked { as_json = as_json; explains = explains; keeps_going = goes_on; window = record { skip = skip; limit = limit; checks_rest = asked.window.checks_rest } }) ≡ false
    → record asked { as_json = as_json; explains = explains; keeps_going = goes_on; window = record { skip = skip; limit = limit; checks_rest = asked.window.checks_rest } } ≡ plain asked
plain_is asked false false false zero None e = refl
plain_is asked as_json explains goes_on skip limit e = absurd (false≢true (sym e))

-- by them it does what it does under the limits alone
pub plainly : {R W E : Type 0} (r : Reading R) (w : Writing W) (e : Writing E) (settings : Settings) → ask_more settings ≡ false → (most : ℕ) (command : Command) (end : ExitStatus)
    → RunsWith r w e settings most command end → Runs r w e settings.limits most command end
plainly r w e settings no_more most command end runs =
    let by_limits = subst (λ (s : Settings). RunsWith r w e s most command end) (plain_is settings settings.as_json settings.explains settings.keeps_going settings.window.skip settings.window.limit no_more) runs in
    elim by_limits [
      | inl goes ↦ elim goes [
        | inl g ↦ ran r w e settings most command end g.0 g.1
        | inr far ↦ absurd (never_filled settings command far.messages far.enough.1)
      ]
      | inr g ↦ stopped r w e settings most command g.before g.stop end g.within g.failed g.tells
    ]
