-- What `json` writes of an input that is all messages is encoded to that input.
use Rattle.std.proofs.Common.{◌≡◌, ◌≢◌, ℕ, ◌+◌, ◌<◌, ◌≤◌, ◌^◌, ◌++◌, Bool, true, false, List, [], ◌∷◌, length, drop, None, Some, Option, codes, refl, sym, ap, ap₂, ◌∙◌, subst, inl, inr, arith, append-nil, append_assoc, length-append}
use Rattle.std.specs.Prelude.{◌||◌}
use Rattle.std.specs.List.{AllByRecursion, concat, flat_map}
use Rattle.std.specs.Io.KnownBytes.{Appends, IsAtEnd}
use Rattle.std.proofs.lemmas.List.Elements.{All-cons, All-nil}
use Rattle.dbus_device.specs.Device.{Wrote}
use Rattle.dbus_device.specs.Packets.{Packets}
use Rattle.dbus_value_model.specs.declared.fault.Fault.{Fault}
use Rattle.dbus_message_model.specs.Messages.{IsValidMessage, message_bytes}
use Rattle.dbus_header.proofs.OutcomeLaws.{whole_bytes, whole_inside, whole_valid}
use Rattle.dbus_lines.proofs.LineLaws.{one_list}
use Rattle.dbus_lines.specs.Lines.{AreLines, IsUnbroken, line_feed}
use Rattle.dbus_show.specs.ShownMessages.{line_feeds}
use Rattle.dbus_show.proofs.LineFeeds.{feeds_cons}
use Rattle.dbus_json.specs.JsonIntegers.{integers_of}
use Rattle.dbus_json.specs.JsonMessages.{IsJsonLine}
use Rattle.dbus_json.proofs.OneLines.{one_line_each}
use Rattle.dbus_names.specs.NameStates.{NameState}
use Rattle.dbus_stream.specs.Cut.{BeginWith, CutMessage, CutOutcome, Ended, IsOutcome, Refused, Unfinished}
use Rattle.dbus_stream.specs.CutEnds.{fault_at_end}
use Rattle.cli_report.specs.Devices.{Reading, Writing, taken}
use Rattle.cli_report.specs.declared.ending.ExitStatus.TheVariants as status
use Rattle.cli_run.specs.Inputs.{ArePlaced, Placed, wholes}
use Rattle.cli_run.specs.Output.{IsOutputOf, IsOutputOfAll, header_before, line_place, status_of, told_place}
use Rattle.cli_options.specs.declared.file_form.FileForm.TheVariants.{Raw}
use Rattle.cli_run.specs.Running.{Answers, Runs, TellsLine}
use Rattle.cli_encode.specs.Outcomes.{Outcome, EndsAtRefused, all_bytes, all_text, any_refused, is_refused}
use Rattle.cli_encode.specs.Runs.{status_of as encoded_status}
use Rattle.cli_encode.specs.declared.encoding.Encoding.{Encoding}
use Rattle.cli_encode_laws.specs.Inverse.{AreTheirLines, PlacedMessage, all_written, bytes_of}
use Rattle.cli_encode_laws.specs.InputBack.{IsInputBack, json}
use Rattle.cli_encode_laws.proofs.Inverse.{are_written, bytes_written, none_refused}
use Rattle.cli_encode_laws.proofs.OneEncoding.{answered}
use Rattle.cli_encode_laws.proofs.Outcomes.{left_over, none_told, of_input, or_false, same_bytes, same_outcomes, same_refused}

-- ---- the lines of messages

unbroken : (line : List ℕ) → line_feeds line ≡ 0 → IsUnbroken line
unbroken [] none = All-nil (λ b. b ≢ line_feed)
unbroken (b ∷ line) none =
    let all = feeds_cons b line in
    All-cons (λ b. b ≢ line_feed) b line (not_feed b line none) (unbroken line (omega (arith, none, all)))
  where
    not_feed : (b : ℕ) (line : List ℕ) → line_feeds (b ∷ line) ≡ 0 → b ≢ line_feed
    not_feed b line none is =
        let here : line_feeds (10 ∷ line) ≡ 0 = subst (λ (c : ℕ). line_feeds (c ∷ line) ≡ 0) is none in
        let all : line_feeds (10 ∷ line) ≡ 1 + line_feeds line = feeds_cons 10 line in
        omega (arith, here, all)

-- what `json` wrote of the messages that these bytes are, by lines
record AreLined (encoding : Encoding) (bytes text : List ℕ) : Type 0 where
  messages : List PlacedMessage
  lines : List (List ℕ)
  cut : AreLines true text lines []
  bytes_are : flat_map bytes_of messages ≡ bytes
  are : AllByRecursion (λ line. length line ≤ encoding.most) lines → AreTheirLines encoding messages lines

module _ (encoding : Encoding) (times : Bool) (packets : Option Packets) where
  one_text : (os : NameState) (m : Placed) (texts : List (List ℕ)) → IsOutputOf (json times encoding.safe_integers) os m.item.order m.item.message m.place texts
      → (text : List ℕ) × IsJsonLine (integers_of encoding.safe_integers) m.item.order m.item.message (line_place (told_place times m.place)) text × (texts ≡ text ∷ [])
  one_text os m texts (inl made) = (made.1, made.2, made.3)
  one_text os m texts (inr none) = absurd (none.0 tt)

  lined : (n offset : ℕ) (bytes : List ℕ) (items : List CutMessage) (os : NameState) (placed : List Placed) (texts : List (List ℕ)) → n ≤ offset + 1 → offset + length bytes < 2 ^ 64
      → BeginWith encoding.limits bytes items [] → ArePlaced packets n offset (wholes items) placed → IsOutputOfAll (json times encoding.safe_integers) os placed texts → AreLined encoding bytes (concat texts)
  lined n offset bytes [] os [] texts counted small begin at made = record { messages = []; lines = []; cut = ap concat made; bytes_are = sym begin; are = λ short. tt }
  lined n offset bytes [] os (m ∷ placed) texts counted small begin at made = absurd cc
  lined n offset bytes (item ∷ items) os [] texts counted small begin at made = absurd at
  lined n offset bytes (item ∷ items) os (m ∷ placed) texts counted small begin at made =
      let one = one_text os m made.0 made.3 in
      let line = one_line_each (integers_of encoding.safe_integers) m.item.order m.item.message (line_place (told_place times m.place)) one.0 one.1 in
      let front = whole_bytes encoding.limits bytes item.order item.message item.size begin.0 in
      let inside = whole_inside encoding.limits bytes item.order item.message item.size begin.0 in
      let some = inside.0 in
      let few = inside.1 in
      let size = front.1 in
      let all : length bytes ≡ length (message_bytes item.order item.message) + length (drop item.size bytes) = ap length front.2 ∙ length-append (message_bytes item.order item.message) (drop item.size bytes) in
      let rest = lined (n + 1) (offset + item.size) (drop item.size bytes) items os placed made.1 (omega (arith, counted, some)) (omega (arith, small, all, size)) begin.1 at.1 made.4 in
      let number_is = at.0.number_is in
      let offset_is = at.0.offset_is in
      let message : PlacedMessage = record { order = m.item.order; message = m.item.message; place = line_place (told_place times m.place) } in
      let bytes_here : message_bytes m.item.order m.item.message ≡ message_bytes item.order item.message = ap (λ (i : CutMessage). message_bytes i.order i.message) at.0.item_is in
      let text_is : concat texts ≡ one.0 ++ concat made.1 = ap concat made.2 ∙ ap (λ (l : List (List ℕ)). concat (l ++ made.1)) one.2 in
      let joined : concat texts ≡ line.0 ++ line_feed ∷ concat made.1 = text_is ∙ ap (λ (t : List ℕ). t ++ concat made.1) line.1 ∙ append_assoc line.0 (codes "\n") (concat made.1) in
      record {
        messages = message ∷ rest.messages;
        lines = line.0 ∷ rest.lines;
        cut = (concat made.1, record { unbroken = unbroken line.0 line.2; joined = inl joined }, rest.cut);
        bytes_are = ap₂ (λ (x : List ℕ) (y : List ℕ). x ++ y) bytes_here rest.bytes_are ∙ sym front.2;
        are = λ short. (
          record {
            valid = subst (λ (i : CutMessage). IsValidMessage encoding.limits i.message) (sym at.0.item_is) (whole_valid encoding.limits bytes item.order item.message item.size begin.0);
            number_in = omega (arith, number_is, counted, small, some, few);
            offset_in = omega (arith, offset_is, small, some, few);
            json = subst (λ (t : List ℕ). IsJsonLine (integers_of encoding.safe_integers) m.item.order m.item.message (line_place (told_place times m.place)) t) line.1 one.1;
            short = short.0;
          },
          rest.are short.1,
        );
      }

-- ---- a run of `json` that refused nothing

no_fault : (fault : Option Fault) → status.Done ≡ status_of fault → fault ≡ None
no_fault None e = refl
no_fault (Some fault) e = absurd cc

ended : (rest : List ℕ) (outcome : CutOutcome) → fault_at_end rest outcome ≡ None → outcome ≡ Ended
ended rest Ended e = refl
ended rest Unfinished e = absurd cc
ended rest (Refused fault) e = absurd cc

raw_header : (placed : List Placed) → header_before Raw false placed ≡ []
raw_header [] = refl
raw_header (m ∷ placed) = refl

got : (held : Option (List ℕ)) (text out : List ℕ) → held ≡ Some text → Appends (Some []) held out → out ≡ text
got None text out is a = absurd cc
got (Some x) text out is a = let same : x ≡ text = cc in sym a ∙ same

module _ {R W E : Type 0} (r : Reading R) (w : Writing W) (e : Writing E) (times : Bool) (encoding : Encoding) (most : ℕ) (input text : List ℕ) (known : r.left r.old ≡ Some input) (small : length input < 2 ^ 64)
    (empty : w.held w.old ≡ Some []) (held : w.held w.new ≡ Some text) where
  -- it refused nothing
  refused_none : (line : List ℕ) (fault : Option Fault) → TellsLine e line fault status.Done → fault ≡ None
  refused_none line fault (inl told) = no_fault fault told.1
  refused_none line fault (inr stopped) = absurd (let bad : status.Done ≡ status.Failed = stopped.2 in cc)

  by_answer : Answers r w e encoding.limits most (json times encoding.safe_integers) status.Done → AreLined encoding input text
  by_answer a =
      let end = ended a.rest a.outcome (refused_none _ _ a.second) in
      let last : a.rest ≡ [] = subst (λ (o : CutOutcome). IsOutcome encoding.limits a.rest o) end a.cut.outcome_is in
      let at_end = a.at_end (λ f is. let bad : Ended ≡ Refused f = sym end ∙ is in cc) in
      let after = left_over (r.left r.old) (r.left r.new) input a.bytes known a.consumed in
      let none : after.0 ≡ [] = subst IsAtEnd after.1 at_end in
      let all : input ≡ a.bytes = after.2 ∙ ap (λ (m : List ℕ). a.bytes ++ m) none ∙ append-nil a.bytes in
      let begin = subst (λ (b : List ℕ). BeginWith encoding.limits b a.items []) (sym all) (subst (λ (l : List ℕ). BeginWith encoding.limits a.bytes a.items l) last a.cut.messages) in
      let out : a.out ≡ concat a.output.texts = a.output.joined ∙ append-nil _ ∙ ap (λ (h : List ℕ). h ++ concat a.output.texts) (raw_header a.output.messages) in
      let written = got (w.held w.new) text a.out held (subst (λ (o : Option (List ℕ)). Appends o (w.held w.new) a.out) empty a.first.appended) in
      subst (λ (t : List ℕ). AreLined encoding input t) (sym out ∙ written) (lined encoding times (r.packets r.old) 1 0 input a.items _ a.output.messages a.output.texts (omega arith) (omega (arith, small)) begin a.output.placed a.output.each)

  by_run : Runs r w e encoding.limits most (json times encoding.safe_integers) status.Done → AreLined encoding input text
  by_run (inl answers) = by_answer answers
  by_run (inr gave_up) = absurd (let bad : status.Done ≡ status.Failed = gave_up.failed in cc)

-- ---- encoded

front_none : (before : List Outcome) (last : Outcome) → any_refused (before ++ last ∷ []) ≡ false → any_refused before ≡ false
front_none [] last none = refl
front_none (o ∷ before) last none =
    let both = or_false (is_refused o) (any_refused (before ++ last ∷ [])) none in
    ap₂ (λ (a : Bool) (b : Bool). a || b) both.0 (front_none before last both.1)

ends_none : (keeps_going : Bool) (os : List Outcome) → any_refused os ≡ false → EndsAtRefused keeps_going os
ends_none keeps_going os none = λ stops before last e. front_none before last (ap any_refused (sym e) ∙ none)

pub input_back : (R S W V E F : Type 0) → IsInputBack R S W V E F
input_back R S W V E F r s w v e f times encoding most more input text end known small runs empty held given kept short done ran =
    let h = by_run r w e times encoding most input text known small empty held runs in
    let all = are_written encoding kept 1 h.messages h.lines (h.are (short h.lines h.cut)) in
    let b = answered s v f encoding more end done ran in
    let y = of_input (taken s) v f encoding more b.refused b.all text given in
    let none = none_refused h.messages in
    let whole = subst (λ (l : List (List ℕ)). AreLines true text l []) (sym (append-nil h.lines)) h.cut in
    let lines = one_list text (b.all.came.lines ++ y.more) (h.lines ++ []) y.cut whole in
    let same = same_outcomes encoding encoding.keeps_going b.all.came.lines h.lines y.more [] b.all.outcomes (all_written h.messages) lines b.all.came.are all y.over b.all.came.ends (inl refl) (ends_none encoding.keeps_going (all_written h.messages) none) in
    record {
      done = b.status_is ∙ ap encoded_status (b.all.refused_is ∙ same_refused b.all.outcomes (all_written h.messages) same ∙ none);
      first = subst (λ (l : List ℕ). Wrote v.held v.failures v.old l v.new) (same_bytes b.all.outcomes (all_written h.messages) same ∙ bytes_written h.messages ∙ h.bytes_are) b.all.first;
      second = subst (λ (l : List ℕ). Wrote f.held f.failures f.old l f.new) (none_told 1 b.all.outcomes (same_refused b.all.outcomes (all_written h.messages) same ∙ none)) b.all.second;
    }
