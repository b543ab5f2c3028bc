-- Two runs that read the same input, and do not fail, end alike.
use Rattle.std.proofs.Common.{◌≡◌, ◌⊎◌, ℕ, ◌+◌, ◌-◌, ◌^◌, min, Bool, false, List, [], ◌∷◌, ◌++◌, arith, length, drop, take, map, None, Some, Option, Result, Ok, Err, String, string_bytes, refl, sym, ap, ◌∙◌, subst, inl, inr, take-append-drop, ◌≢◌}
use Rattle.std.proofs.lemmas.List.{map-id}
use Rattle.std.proofs.Math.Path.{transport}
use Rattle.std.specs.Io.KnownBytes.{Consumes, IsAtEnd}
use Rattle.dbus_device.specs.Device.{Wrote}
use Rattle.dbus_device.specs.Packets.{Packets}
use Rattle.dbus_value_model.specs.ByteNumbers.{IsBytes}
use Rattle.dbus_value_model.proofs.Numbers.{IsBytes-rest}
use Rattle.dbus_value_model.specs.declared.fault.Fault.{Fault}
use Rattle.dbus_value_model.specs.declared.limits.Limits.{Limits}
use Rattle.dbus_count.specs.Spans.{span_text}
use Rattle.dbus_count.specs.Tables.{AreTables, words, OneTable}
use Rattle.dbus_call_lines.specs.Keeping.{ended_rows}
use Rattle.dbus_call_lines.specs.Listing.{Row, rows_text, Numbered}
use Rattle.dbus_call_lines.proofs.Rows.{one_list}
use Rattle.dbus_call_lines.proofs.Stray.{one_stray}
use Rattle.dbus_call_members.specs.Summing.{members, sums}
use Rattle.dbus_call_members.specs.Tables.{IsTable}
use Rattle.dbus_call_members.proofs.OneTable.{one_table as one_member_table}
use Rattle.dbus_stream.specs.Cut.{IsOutcome, BeginWith, CutMessage, CutOutcome, Ended, Refused, IsCut}
use Rattle.dbus_stream.specs.CutEnds.{fault_at_end, sizes}
use Rattle.dbus_stream.proofs.CutLaws.{IsCut-one, BeginWith-more}
use Rattle.cli_options.specs.declared.resync.Resync.TheVariants.{Off}
use Rattle.cli_options.specs.Selections.{AreSameCommand}
use Rattle.cli_options.specs.declared.command.Command.{Command}
use Rattle.cli_options.specs.declared.settings.Settings.{Settings}
use Rattle.cli_options.specs.declared.wanted_lines.WantedLines.{WantedLines}
use Rattle.cli_options.specs.declared.window.Window.{Window}
use Rattle.std.specs.declared.alloc.Global.{Global}
use Rattle.cli_report.specs.Devices.{Reading, Taken, Writing, taken, writing}
use Rattle.cli_report.specs.declared.ending.Cause.{Cause}
use Rattle.cli_report.specs.declared.ending.ExitStatus.{ExitStatus}
use Rattle.cli_report.specs.declared.ending.ExitStatus.TheVariants as status
use Rattle.cli_run.specs.Laws.{AreOfOneInput, AreOfSamePackets, AreToldAlike, EndAlike, MadeAlike, OneCalls, OneCount, OneListing, OneRun, OneSums, OneWithin, HaveNoDouble, TellsOne}
use Rattle.cli_run.specs.ByName.{EndsCounts, MakesCounts, after_messages, counting, first_counts, items_of, span_of, table_form}
use Rattle.cli_run.specs.CallListing.{EndsCalls, IsNote, MakesCalls, all_named, first_calls, lack_times, notes, numbered}
use Rattle.cli_run.specs.CallSumming.{EndsSums, MakesSums, first_sums}
use Rattle.cli_run.specs.Going.{AreTold, Goes, GoesFar, GoesThrough, IsThrough, IsToldLast, closing_line, cut_tally, passed_count, status_at, tally_of, tally_with}
use Rattle.cli_run.specs.Inputs.{ArePlaced, BeginWithParts, Part, Placed, looked_in, size_of, sizes_of, wholes}
use Rattle.cli_run.specs.LineListing.{LinesState, MakesLines, first_lines}
use Rattle.cli_run.specs.Making.{EndsAfterAll, EndsSo, FillsFrom, RunsToEnd, WritesLast, WritesMade}
use Rattle.cli_run.specs.Needed.{IsReadFor}
use Rattle.cli_run.specs.Output.{is_check, check_line, fault_line, form_of, header_before, is_spent, last_line, second_output, status_of, written}
use Rattle.cli_run.specs.Refusals.{IsFaultIn}
use Rattle.cli_run.specs.Rendering.{Makes, first_state, is_full}
use Rattle.cli_run.specs.Running.{Writes, TellsLine}
use Rattle.cli_run.specs.Told.{first_of, second_of}
use Rattle.cli_run.specs.VisitorLaws.{wrote_both}
use Rattle.cli_run.specs.declared.tally.Tally.{Tally}
use Rattle.cli_options.specs.declared.file_form.FileForm.{FileForm}
use Rattle.cli_run.proofs.CallSteps.{rows_all}
use Rattle.cli_run.proofs.CountSteps.{counts_all}
use Rattle.cli_report.specs.FaultFronts.{IsFaultFront}
use Rattle.cli_run.proofs.FrontSteps.{HaveSameFronts, refused_as, told_as}
use Rattle.cli_run.proofs.GoSteps.{none_is as none_refused_is}
use Rattle.cli_run.proofs.Outputs.{header_one}
use Rattle.cli_run.proofs.PartLaws.{is_last, parts_more, parts_of}
use Rattle.cli_run.proofs.SameOutputs.{TellsOneOf, acts_as, are_passed, none_last, none_refused, none_told, one_placed, same_first, same_last, same_outputs, same_selected, same_told}
use Rattle.cli_run.proofs.SameFar.{filled_alike, lines_filled, not_through, same_far, same_items as items_alike}
use Rattle.cli_run.proofs.SameParts.{AreKnown, EndsAll, EndsHere, ends_here, one_packet, same_cut, same_parts}
use Rattle.cli_run.proofs.SumSteps.{sums_all}
use Rattle.std.specs.List.{concat}
use Rattle.std.specs.Option.{is_none}

-- ---- what a run reads is the input up to where it ends

left_over : (a b : Option (List ℕ)) (input bytes : List ℕ) → a ≡ Some input → Consumes a b bytes → (more : List ℕ) × (b ≡ Some more) × (input ≡ bytes ++ more)
left_over None b input bytes e c = absurd cc
left_over (Some x) None input bytes e c = absurd c
left_over (Some x) (Some y) input bytes e c = let same : x ≡ input = cc in (y, refl, sym same ∙ c)

parts_bytes : (limits : Limits) (bytes : List ℕ) (parts : List Part) (rest : List ℕ) → BeginWithParts limits bytes parts rest → IsBytes bytes → IsBytes rest
parts_bytes limits bytes [] rest b are = subst IsBytes b are
parts_bytes limits bytes (part ∷ parts) rest b are =
    let n = size_of part in
    parts_bytes limits (drop n bytes) parts rest b.1 (IsBytes-rest bytes (take n bytes) (drop n bytes) (sym (take-append-drop n bytes)) are)

-- both inputs are of the same packets, or nothing is refused
abbrev AreTakenAlike : Taken → Taken → ExitStatus → Type 0
AreTakenAlike t u end = ((all : Packets) × (t.packets ≡ Some all) × (u.packets ≡ Some all)) ⊎ (end ≡ status.Done)

taken_alike : {R S : Type 0} (r : Reading R) (s : Reading S) (end due : ExitStatus) → due ≡ end → AreToldAlike r s end → AreTakenAlike (taken r) (taken s) due
taken_alike r s end due is told = elim told [ inl packets ↦ inl (packets.all, packets.one, packets.same) | inr done ↦ inr (is ∙ done) ]

-- two runs took the same messages, told the same, and ended with one status
abbrev AreAlikeRuns : (t u : Taken) (P Q : List Placed → (told : List ℕ) → Type 0) (end other : ExitStatus) → Type 0
AreAlikeRuns t u P Q end other = (items also : List Placed) × (told : List ℕ) × P items told × Q also told × (other ≡ end) × (parts : List Part) × ArePlaced t.packets 1 0 parts items × ArePlaced u.packets 1 0 parts also

-- of the same packets
same_items : {R S : Type 0} (r : Reading R) (s : Reading S) {P Q : List Placed → (told : List ℕ) → Type 0} {end other : ExitStatus} (all : AreAlikeRuns (taken r) (taken s) P Q end other) → AreOfSamePackets r s → all.0 ≡ all.1
same_items r s all packets =
    let here = subst (λ (p : Option Packets). ArePlaced p 1 0 all.6 all.0) packets.one all.7 in
    let there = subst (λ (p : Option Packets). ArePlaced p 1 0 all.6 all.1) packets.same all.8 in
    one_placed packets.all 1 0 all.6 all.0 all.1 here there

none_passed : (cut : Option (Option ℕ)) (parts : List Part) (rest : List ℕ) → (tally_with cut parts rest).passed ≡ 0 → passed_count parts ≡ 0
none_passed None parts rest none = none
none_passed (Some by) parts rest none = absurd (omega (arith, none))

-- what is told of the rest is told of more bytes
last_as : (settings : Settings) (all : Packets) (n offset : ℕ) (v w : List ℕ) (fault : Option Fault) (text : List ℕ) → HaveSameFronts settings.limits v w → IsToldLast (Some all) settings n offset v fault text → IsToldLast (Some all) settings n offset w fault text
last_as settings all n offset v w None text same h = h
last_as settings all n offset v w (Some fault) text same h = told_as (Some all) settings n offset v w fault text same h

module _ (settings : Settings) (is_check : Bool) (input : List ℕ) (bytes : IsBytes input) where
  record IsReached {t : Taken} {most : ℕ} {tally : Tally} {fault : Option Fault} {told text : List ℕ} (h : IsThrough t settings most is_check tally fault told text) : Type 0 where
    more : List ℕ
    begin : BeginWithParts settings.limits input h.parts (h.rest ++ more)
    all : EndsAll settings.limits t.packets h.cut settings (sizes_of h.parts) (looked_in h.parts) h.rest more h.tells.outcome

  reached : {t : Taken} {most : ℕ} {tally : Tally} {fault : Option Fault} {told text : List ℕ} (h : IsThrough t settings most is_check tally fault told text) → t.left0 ≡ Some input → IsReached h
  reached {t} h known =
      let after = left_over t.left0 t.left1 input h.covers.bytes known h.covers.consumed in
      let none : IsAtEnd t.left1 → after.0 ≡ [] = λ e. subst IsAtEnd after.1 e in
      let begin = subst (λ l. BeginWithParts settings.limits l h.parts (h.rest ++ after.0)) (sym after.2) (parts_more settings.limits h.covers.bytes h.parts h.rest after.0 (λ e. none (h.covers.ends e)) h.covers.begin) in
      let all = ends_here settings.limits t.packets h.cut settings (sizes_of h.parts) (looked_in h.parts) h.rest after.0 h.tells.outcome (IsAtEnd t.left1) none (parts_bytes settings.limits input h.parts (h.rest ++ after.0) begin bytes) h.tells.outcome_is h.last in
      record { more = after.0; begin = begin; all = all }

  -- the place after all parts
  after_all : (packets : Option Packets) (cut : Option (Option ℕ)) (n looked : ℕ) (w : List ℕ) (outcome : CutOutcome) → EndsHere settings.limits packets cut settings n looked w outcome → EndsHere settings.limits packets cut settings (0 + n) looked w outcome
  after_all packets cut n looked w outcome e = let same : n ≡ 0 + n = omega arith in subst (λ (k : ℕ). EndsHere settings.limits packets cut settings k looked w outcome) same e

  -- nothing is refused then
  unrefused : {t : Taken} {most : ℕ} {F : List Placed → Bool → Type 0} {P : List Placed → (told : List ℕ) → Type 0} {end : ExitStatus} (g : GoesThrough t settings most is_check F P end) → end ≡ status.Done
      → (passed_count g.through.parts ≡ 0) × (g.through.tells.outcome ≡ Ended)
  unrefused g done =
      let none = none_refused g.tally.passed g.fault (sym g.end_is ∙ done) in (
        none_passed g.through.cut g.through.parts g.through.rest (ap (λ (t : Tally). t.passed) (sym g.through.tally_is) ∙ none.0),
        none_refused_is g.through.rest g.through.tells.outcome (sym none.1 ∙ g.through.tells.fault_is),
      )

  -- ---- two runs

  module _ {t u : Taken} {most more : ℕ} {F G : List Placed → Bool → Type 0} {P Q : List Placed → (told : List ℕ) → Type 0} {end other : ExitStatus} (g : GoesThrough t settings most is_check F P end) (h : GoesThrough u settings more is_check G Q other)
      (tells : TellsOne t.packets settings input end) (known : t.left0 ≡ Some input) (known_too : u.left0 ≡ Some input) (alike : AreTakenAlike t u end) where
    a : IsReached g.through
    a = reached g.through known

    b : IsReached h.through
    b = reached h.through known_too

    known_alike : AreKnown settings.limits t.packets u.packets g.through.tells.outcome g.through.parts
    known_alike = elim alike [ inl packets ↦ inl packets | inr done ↦ inr (unrefused g done) ]

    same : (g.through.parts ≡ h.through.parts) × (g.through.rest ++ a.more ≡ h.through.rest ++ b.more)
    same = same_parts settings.limits t.packets u.packets g.through.cut h.through.cut settings 0 0 input g.through.parts h.through.parts (g.through.rest ++ a.more) (h.through.rest ++ b.more) g.through.tells.outcome h.through.tells.outcome known_alike a.begin b.begin
        (are_passed t.packets settings 1 0 0 g.through.parts g.told g.through.covers.tells) (are_passed u.packets settings 1 0 0 h.through.parts h.told h.through.covers.tells)
        (after_all t.packets g.through.cut (sizes_of g.through.parts) (looked_in g.through.parts) (g.through.rest ++ a.more) g.through.tells.outcome a.all.ends) (after_all u.packets h.through.cut (sizes_of h.through.parts) (looked_in h.through.parts) (h.through.rest ++ b.more) h.through.tells.outcome b.all.ends)

    outcome_is : g.through.tells.outcome ≡ h.through.tells.outcome
    outcome_is =
        let last = subst (λ l. IsOutcome settings.limits l h.through.tells.outcome) (sym same.1) b.all.ends.outcome_is in
        (IsCut-one settings.limits (g.through.rest ++ a.more) [] [] (g.through.rest ++ a.more) (g.through.rest ++ a.more) _ _ (record { messages = refl; outcome_is = a.all.ends.outcome_is }) (record { messages = refl; outcome_is = last })).2

    fault_is : g.fault ≡ h.fault
    fault_is = g.through.tells.fault_is ∙ (a.all.fault_is ∙ ((λ i. fault_at_end (same.1 i) (outcome_is i)) ∙ (sym b.all.fault_is ∙ sym h.through.tells.fault_is)))

    cut_is : g.through.cut ≡ h.through.cut
    cut_is =
        same_cut settings.limits t.packets u.packets g.through.cut h.through.cut settings (sizes_of g.through.parts) (looked_in g.through.parts) (g.through.rest ++ a.more) g.through.tells.outcome (elim alike [ inl packets ↦ inl packets | inr done ↦ inr (unrefused g done).1 ]) a.all.ends
        (transport (λ i. EndsHere settings.limits u.packets h.through.cut settings (sizes_of (sym same.0 i)) (looked_in (sym same.0 i)) (sym same.1 i) (sym outcome_is i)) b.all.ends)

    -- with what the input ends within
    both_tally : (cut snip : Option (Option ℕ)) → cut ≡ snip → ((by : Option ℕ) → cut ≡ Some by → g.through.rest ++ a.more ≡ g.through.rest) → ((by : Option ℕ) → snip ≡ Some by → h.through.rest ++ b.more ≡ h.through.rest)
        → tally_with cut g.through.parts g.through.rest ≡ tally_with snip h.through.parts h.through.rest
    both_tally None None e x y = ap tally_of same.0
    both_tally (Some by) (Some from) e x y =
        let there : length g.through.rest ≡ length h.through.rest = ap length (sym (x by refl) ∙ (same.1 ∙ y from refl)) in
        let one : by ≡ from = cc in
        λ i. cut_tally (tally_of (same.0 i)) (there i) (is_none (one i))
    both_tally (Some by) None e x y = absurd cc
    both_tally None (Some by) e x y = absurd cc

    tally_is : g.tally ≡ h.tally
    tally_is = g.through.tally_is ∙ (both_tally g.through.cut h.through.cut cut_is a.all.all_is b.all.all_is ∙ sym h.through.tally_is)

    -- nothing is refused
    none_is : end ≡ status.Done → g.told ++ g.text ≡ h.told ++ h.text
    none_is done =
        let none = none_refused g.tally.passed g.fault (sym g.end_is ∙ done) in
        let passed = (unrefused g done).0 in
        let first = none_told settings t.packets 1 0 0 g.through.parts g.told passed g.through.covers.tells in
        let first_too = none_told settings u.packets 1 0 0 h.through.parts h.told (ap passed_count (sym same.0) ∙ passed) h.through.covers.tells in
        let last = none_last settings t.packets (length g.through.parts + 1) (sizes_of g.through.parts) g.through.rest g.fault g.text none.1 g.through.tells.told in
        let last_too = none_last settings u.packets (length h.through.parts + 1) (sizes_of h.through.parts) h.through.rest h.fault h.text (sym fault_is ∙ none.1) h.through.tells.told in
        (λ i. first i ++ last i) ∙ sym (λ i. first_too i ++ last_too i)

    -- or what is refused is of the same packets
    line_is : (all : Packets) → t.packets ≡ Some all → u.packets ≡ Some all → TellsOneOf settings all 1 0 0 input → g.told ++ g.text ≡ h.told ++ h.text
    line_is all one too told =
        let parts = subst (λ (p : Option Packets). AreTold p settings 1 0 0 g.through.parts g.told) one g.through.covers.tells in
        let parts_too = transport (λ i. AreTold (too i) settings 1 0 0 (sym same.0 i) h.told) h.through.covers.tells in
        let first = same_told settings all 1 0 0 input g.through.parts (g.through.rest ++ a.more) g.told h.told told a.begin parts parts_too in
        let text = last_as settings all (length g.through.parts + 1) (sizes_of g.through.parts) g.through.rest (g.through.rest ++ a.more) g.fault g.text a.all.fronts (subst (λ (p : Option Packets). IsToldLast p settings (length g.through.parts + 1) (sizes_of g.through.parts) g.through.rest g.fault g.text) one g.through.tells.told) in
        let text_too = last_as settings all (length h.through.parts + 1) (sizes_of h.through.parts) h.through.rest (h.through.rest ++ b.more) h.fault h.text b.all.fronts (subst (λ (p : Option Packets). IsToldLast p settings (length h.through.parts + 1) (sizes_of h.through.parts) h.through.rest h.fault h.text) too h.through.tells.told) in
        let text_there = transport (λ i. IsToldLast (Some all) settings (length (sym same.0 i) + 1) (sizes_of (sym same.0 i)) (sym same.1 i) (sym fault_is i) h.text) text_too in
        let last = same_last settings all 1 0 0 (length g.through.parts + 1) (sizes_of g.through.parts) input g.through.parts (g.through.rest ++ a.more) a.all.ends.front g.told g.fault g.through.tells.outcome g.text h.text told a.begin parts
        a.all.ends.is_front a.all.ends.outcome_is (g.through.tells.fault_is ∙ a.all.fault_is) text text_there in
        λ i. first i ++ last i

    told_is : g.told ++ g.text ≡ h.told ++ h.text
    told_is = elim alike [
      | inr done ↦ none_is done
      | inl packets ↦ elim tells [
        | inl plain ↦ line_is packets.0 packets.1 packets.2 (inl plain)
        | inr other ↦ elim other [ inl done ↦ none_is done | inr none ↦ line_is packets.0 packets.1 packets.2 (inr (subst (λ (p : Option Packets). HaveNoDouble p settings 1 0 0 input) packets.1 none)) ]
      ]
    ]

    goes_alike : AreAlikeRuns t u P Q end other
    goes_alike =
        let closing : closing_line settings.as_json is_check settings.keeps_going g.tally g.tally.passed g.fault ≡ closing_line settings.as_json is_check settings.keeps_going h.tally h.tally.passed h.fault = λ i. closing_line settings.as_json is_check settings.keeps_going (tally_is i) (tally_is i).passed (fault_is i) in
        let all : g.told ++ g.text ++ closing_line settings.as_json is_check settings.keeps_going g.tally g.tally.passed g.fault ≡ h.told ++ h.text ++ closing_line settings.as_json is_check settings.keeps_going h.tally h.tally.passed h.fault = λ i. told_is i ++ closing i in (
          g.messages,
          h.messages,
          g.told ++ g.text ++ closing_line settings.as_json is_check settings.keeps_going g.tally g.tally.passed g.fault,
          g.came,
          subst (λ (l : List ℕ). Q h.messages l) (sym all) h.came,
          h.end_is ∙ ((λ i. status_at (sym tally_is i).passed (sym fault_is i)) ∙ sym g.end_is),
          g.through.parts,
          g.placed,
          subst (λ (l : List Part). ArePlaced u.packets 1 0 l h.messages) (sym same.0) h.placed,
        )

  -- ---- two runs that end since no more is wanted

  far_begins : {t : Taken} {most : ℕ} {F : List Placed → Bool → Type 0} {N : (size : ℕ) → Type 0} {P : List Placed → (told : List ℕ) → Type 0} {end : ExitStatus} (g : GoesFar t settings most is_check F N P end) → t.left0 ≡ Some input
      → (last : List ℕ) × BeginWithParts settings.limits input g.parts last
  far_begins {t} g known =
      let after = left_over t.left0 t.left1 input g.covers.bytes known g.covers.consumed in
      (g.rest ++ after.0, subst (λ l. BeginWithParts settings.limits l g.parts (g.rest ++ after.0)) (sym after.2) (parts_more settings.limits g.covers.bytes g.parts g.rest after.0 (λ e. subst IsAtEnd after.1 (g.covers.ends e)) g.covers.begin))

  module _ {t u : Taken} {most more : ℕ} {F G : List Placed → Bool → Type 0} {P Q : List Placed → (told : List ℕ) → Type 0} {end other : ExitStatus} (one : (s l : List Placed) (x y : Bool) → items_of s ≡ items_of l → F s x → G l y → x ≡ y)
      (known : t.left0 ≡ Some input) (known_too : u.left0 ≡ Some input) (alike : AreTakenAlike t u end) where
    module _ {N M : (size : ℕ) → Type 0} (g : GoesFar t settings most is_check F N P end) (h : GoesFar u settings more is_check G M Q other) (tells : TellsOne t.packets settings input end) where
      far_none : end ≡ status.Done → passed_count g.parts ≡ 0
      far_none done = (none_refused (passed_count g.parts) None (sym g.end_is ∙ done)).0

      far_same : g.parts ≡ h.parts
      far_same = same_far settings.limits F G one t.packets u.packets settings input g.parts h.parts _ _ g.messages h.messages (elim alike [ inl packets ↦ inl packets | inr done ↦ inr (far_none done) ]) (far_begins g known).1 (far_begins h known_too).1 g.placed h.placed g.wanted h.wanted
          g.enough.0 h.enough.0 (are_passed t.packets settings 1 0 0 g.parts g.told g.covers.tells) (are_passed u.packets settings 1 0 0 h.parts h.told h.covers.tells) g.enough.1 h.enough.1

      far_unrefused : end ≡ status.Done → g.told ≡ h.told
      far_unrefused done =
          none_told settings t.packets 1 0 0 g.parts g.told (far_none done) g.covers.tells ∙ sym (none_told settings u.packets 1 0 0 h.parts h.told (ap passed_count (sym far_same) ∙ far_none done) h.covers.tells)

      far_lines : (all : Packets) → t.packets ≡ Some all → u.packets ≡ Some all → TellsOneOf settings all 1 0 0 input → g.told ≡ h.told
      far_lines all here there told =
          let parts = subst (λ (p : Option Packets). AreTold p settings 1 0 0 g.parts g.told) here g.covers.tells in
          let parts_too = transport (λ i. AreTold (there i) settings 1 0 0 (sym far_same i) h.told) h.covers.tells in
          same_told settings all 1 0 0 input g.parts (far_begins g known).0 g.told h.told told (far_begins g known).1 parts parts_too

      far_told : g.told ≡ h.told
      far_told = elim alike [
        | inr done ↦ far_unrefused done
        | inl packets ↦ elim tells [
          | inl plain ↦ far_lines packets.0 packets.1 packets.2 (inl plain)
          | inr other ↦ elim other [ inl done ↦ far_unrefused done | inr none ↦ far_lines packets.0 packets.1 packets.2 (inr (subst (λ (p : Option Packets). HaveNoDouble p settings 1 0 0 input) packets.1 none)) ]
        ]
      ]

      far_alike : AreAlikeRuns t u P Q end other
      far_alike =
          let line : g.line ≡ h.line = g.enough.2 ∙ ((λ i. closing_line settings.as_json is_check settings.keeps_going (tally_of (far_same i)) (passed_count (far_same i)) None) ∙ sym h.enough.2) in (
            g.messages,
            h.messages,
            g.told ++ g.line,
            g.came,
            subst (λ (l : List ℕ). Q h.messages l) (sym (λ i. far_told i ++ line i)) h.came,
            h.end_is ∙ ((λ i. status_at (passed_count (sym far_same i)) None) ∙ sym g.end_is),
            g.parts,
            g.placed,
            subst (λ (l : List Part). ArePlaced u.packets 1 0 l h.messages) (sym far_same) h.placed,
          )

    -- one that goes through, and one that does not
    far_not : {M : (size : ℕ) → Type 0} (g : GoesThrough t settings most is_check F P end) (h : GoesFar u settings more is_check G M Q other) → ⊥
    far_not g h =
        let a = reached g.through known in
        not_through settings.limits F G one t.packets u.packets g.through.cut settings input g.through.parts h.parts (g.through.rest ++ a.more) (far_begins h known_too).0 g.through.tells.outcome g.messages h.messages
        (elim alike [ inl packets ↦ inl packets | inr done ↦ inr (inl (unrefused g done)) ]) a.begin (far_begins h known_too).1 g.placed h.placed g.wanted
        (after_all t.packets g.through.cut (sizes_of g.through.parts) (looked_in g.through.parts) (g.through.rest ++ a.more) g.through.tells.outcome a.all.ends) (are_passed t.packets settings 1 0 0 g.through.parts g.told g.through.covers.tells) (are_passed u.packets settings 1 0 0 h.parts h.told h.covers.tells) g.unfilled h.enough.1

    not_far : {N : (size : ℕ) → Type 0} (g : GoesFar t settings most is_check F N P end) (h : GoesThrough u settings more is_check G Q other) → ⊥
    not_far g h =
        let b = reached h.through known_too in
        not_through settings.limits G F (λ s l x y e p q. sym (one l s y x (sym e) q p)) u.packets t.packets h.through.cut settings input h.through.parts g.parts (h.through.rest ++ b.more) (far_begins g known).0 h.through.tells.outcome h.messages g.messages
        (elim alike [ inl packets ↦ inl (packets.0, packets.2, packets.1) | inr done ↦ inr (inr (none_refused (passed_count g.parts) None (sym g.end_is ∙ done)).0) ]) b.begin (far_begins g known).1 h.placed g.placed h.wanted
        (after_all u.packets h.through.cut (sizes_of h.through.parts) (looked_in h.through.parts) (h.through.rest ++ b.more) h.through.tells.outcome b.all.ends) (are_passed u.packets settings 1 0 0 h.through.parts h.told h.through.covers.tells) (are_passed t.packets settings 1 0 0 g.parts g.told g.covers.tells) h.unfilled g.enough.1

    ends_alike : {N M : (size : ℕ) → Type 0} (g : Goes t settings most is_check F N P end) (h : Goes u settings more is_check G M Q other) → TellsOne t.packets settings input end → AreAlikeRuns t u P Q end other
    ends_alike (inl through) (inl too) tells = goes_alike through.0 too.0 tells known known_too alike
    ends_alike (inl through) (inr far) tells = absurd (far_not through.0 far)
    ends_alike (inr far) (inl too) tells = absurd (not_far far too.0)
    ends_alike (inr far) (inr far_too) tells = far_alike far far_too tells

-- ---- the laws

-- two runs of the same packets that took the same messages
made_alike : {R S : Type 0} (r : Reading R) (s : Reading S) {P Q : List Placed → (told : List ℕ) → Type 0} {end other : ExitStatus} → AreAlikeRuns (taken r) (taken s) P Q end other → AreOfSamePackets r s → MadeAlike P Q end other
made_alike r s {P} {Q} all packets =
    let items = same_items r s all packets in
    record { status_is = all.5; items = all.0; told = all.2; one = all.3; same = subst (λ (l : List Placed). Q l all.2) (sym items) all.4 }

-- both writers of two runs got the same
got_alike : {W V E F : Type 0} (w : Writing W) (v : Writing V) (e : Writing E) (f : Writing F) {end other : ExitStatus} {a b c d : List ℕ} → other ≡ end → a ≡ b → c ≡ d → Wrote w.held w.failures w.old a w.new → Wrote v.held v.failures v.old b v.new
    → Wrote e.held e.failures e.old c e.new → Wrote f.held f.failures f.old d f.new → EndAlike w v e f end other
got_alike w v e f {end} {other} {a} {b} {c} {d} status_is first second one too told again = record {
  status_is = status_is;
  first = (a, one, subst (λ (l : List ℕ). Wrote v.held v.failures v.old l v.new) (sym first) too);
  second = (c, told, subst (λ (l : List ℕ). Wrote f.held f.failures f.old l f.new) (sym second) again);
}

-- whether no more messages are wanted is the same of the same messages
run_filled : (command copy : Command) → AreSameCommand command copy → (window : Window) (s l : List Placed) (x y : Bool) → items_of s ≡ items_of l → FillsFrom Makes (first_state command window) is_full s x → FillsFrom Makes (first_state copy window) is_full l y → x ≡ y
run_filled command copy same window s l x y e p q =
    filled_alike command copy (acts_as command copy same) window s l x y e (p.2.texts, p.2.made, ap is_full (sym p.2.then) ∙ p.3) (q.2.texts, q.2.made, ap is_full (sym q.2.then) ∙ q.3)

list_filled : (wanted : WantedLines) (window : Window) (s l : List Placed) (x y : Bool) → items_of s ≡ items_of l → FillsFrom MakesLines (first_lines wanted window) (λ t. is_spent t.window) s x → FillsFrom MakesLines (first_lines wanted window) (λ t. is_spent t.window) l y → x ≡ y
list_filled wanted window s l x y e p q =
    lines_filled wanted window s l x y e (p.2.lines, p.2.are, ap (λ (t : LinesState). is_spent t.window) (sym p.2.then) ∙ p.3) (q.2.lines, q.2.are, ap (λ (t : LinesState). is_spent t.window) (sym q.2.then) ∙ q.3)

pub one_run : (R S W V E F : Type 0) → OneRun R S W V E F
one_run R S W V E F r s w v e f settings most more command copy end other same (inl g) (inl h) is =
    let acts = acts_as command copy same in
    let checks = acts.checks in
    let input = is.input in
    let k = subst (λ c. Goes (taken s) settings more c (FillsFrom Makes (first_state copy settings.window) is_full) (IsReadFor s) (Writes v f settings copy) other) (sym checks) h in
    let all = ends_alike settings (is_check command.output) input.0 input.1 (run_filled command copy same settings.window) input.2 input.3 (taken_alike r s end end refl is.told) g k is.one in
    let one = all.0 in
    let other = all.1 in
    let told = all.2 in (
      made_alike r s all,
      λ exact alike.
          let texts = same_outputs command copy acts exact (r.packets r.old) (s.packets s.old) alike all.6 one other all.3.made.texts all.4.made.texts all.7 all.8 all.3.made.made all.4.made.made in
          let header : header_before (form_of command.output) false one ≡ header_before (form_of copy.output) false other
          = header_one (form_of command.output) (r.packets r.old) (s.packets s.old) false 1 0 all.6 one other alike all.7 all.8 ∙ ap (λ (f : FileForm). header_before f false other) acts.form in
          let text : all.3.text ≡ all.4.text = all.3.made.text_is ∙ ((λ i. header i ++ written settings.window (texts i)) ∙ sym all.4.made.text_is) in
          let first : first_of (is_check command.output) all.3.text told ≡ first_of (is_check copy.output) all.4.text told = λ i. first_of (checks i) (text i) told in
          let second : second_of (is_check command.output) told ≡ second_of (is_check copy.output) told = λ i. second_of (checks i) told in
          got_alike w v e f all.5 first second all.3.first all.4.first all.3.second all.4.second,
    )
one_run R S W V E F r s w v e f settings most more command copy end other same (inl g) (inr gave_up) is = absurd (is.other_done gave_up.failed)
one_run R S W V E F r s w v e f settings most more command copy end other same (inr gave_up) ran is = absurd (is.done gave_up.failed)

pub one_listing : (R S W V E F : Type 0) → OneListing R S W V E F
one_listing R S W V E F r s w v e f settings wanted most more end other (inl g) (inl h) is packets =
    let input = is.input in
    made_alike r s (ends_alike settings false input.0 input.1 (list_filled wanted settings.window) input.2 input.3 (taken_alike r s end end refl is.told) g h is.one) packets
one_listing R S W V E F r s w v e f settings wanted most more end other (inl g) (inr gave_up) is packets = absurd (is.other_done gave_up.failed)
one_listing R S W V E F r s w v e f settings wanted most more end other (inr gave_up) listed is packets = absurd (is.done gave_up.failed)

-- ---- runs that write more at their ends

module _ {T : Type 0} (makes : T → List Placed → List ℕ → T → Type 0) (ends : T → (text note : List ℕ) → Type 0) where
  -- the texts of messages and of the end were written, and its note was told after this
  record WroteAll (t : T) {W E : Type 0} (w : Writing W) (e : Writing E) (items : List Placed) (told : List ℕ) : Type 0 where
    then : T
    text : List ℕ
    last : List ℕ
    note : List ℕ
    made : makes t items text then
    at_end : ends then last note
    first : Wrote w.held w.failures w.old (text ++ last) w.new
    second : Wrote e.held e.failures e.old (told ++ note) e.new

  -- unless the run failed
  wrote_all : (t : T) {W E : Type 0} (w : Writing W) (e : Writing E) (middle : W) (before : E) (last : Result (String Global) Cause) (due end : ExitStatus) (items : List Placed) (told : List ℕ) → (end ≡ status.Failed → ⊥)
      → (made : WritesMade makes t false (writing w.held w.failures w.old middle) (writing e.held e.failures e.old before) items told) × WritesLast ends made.then (writing w.held w.failures middle w.new) last
      → EndsSo (writing e.held e.failures before e.new) due end last → WroteAll t w e items told × (end ≡ due)
  wrote_all t w e middle before (Err cause) due end items told done came so = absurd (done so.1)
  wrote_all t w e middle before (Ok note) due end items told done (h, last) so = elim so [
    | inl noted ↦ (
      record {
        then = h.then;
        text = h.text;
        last = last.0;
        note = string_bytes note;
        made = h.made;
        at_end = last.1;
        first = wrote_both w.held w.failures h.text last.0 w.old middle w.new h.first last.2;
        second = wrote_both e.held e.failures told (string_bytes note) e.old before e.new h.second noted.0.0;
      },
      noted.1,
    )
    | inr stopped ↦ absurd (done stopped.1)
  ]

  module _ {R S W V E F : Type 0} (t u : T) (r : Reading R) (s : Reading S) (w : Writing W) (v : Writing V) (e : Writing E) (f : Writing F) (settings : Settings) {most more : ℕ} {end other : ExitStatus} where
    all_alike : (g : EndsAfterAll makes t ends r w e settings most end) (h : EndsAfterAll makes u ends s v f settings more other) → AreOfOneInput r s settings end other
        → AreAlikeRuns (taken r) (taken s) (WroteAll t w e) (WroteAll u v f) end other
    all_alike g h is =
        let input = is.input in
        let due = (wrote_all t w e g.middle g.before g.last g.due end g.through.messages _ is.done g.through.came g.ends_so).1 in
        let tells = subst (λ (x : ExitStatus). TellsOne (r.packets r.old) settings input.0 x) due is.one in
        let all = goes_alike settings false input.0 input.1 g.through h.through tells input.2 input.3 (taken_alike r s _ g.due (sym due) is.told) in
        let one = wrote_all t w e g.middle g.before g.last g.due end all.0 all.2 is.done all.3 g.ends_so in
        let too = wrote_all u v f h.middle h.before h.last h.due other all.1 all.2 is.other_done all.4 h.ends_so in
        (all.0, all.1, all.2, one.0, too.0, too.1 ∙ (all.5 ∙ sym one.1), all.6, all.7, all.8)

    -- the law: if what is made of the same messages is the same, they end alike
    one_meaning : ((items : List Placed) (a b : T) (p q x y m n : List ℕ) → makes t items p a → ends a x m → makes u items q b → ends b y n → (p ++ x ≡ q ++ y) × (m ≡ n)) → RunsToEnd makes t ends r w e settings most end → RunsToEnd makes u ends s v f settings more other
        → AreOfOneInput r s settings end other → AreOfSamePackets r s → EndAlike w v e f end other
    one_meaning one (inl g) (inl h) is packets =
        let all = all_alike g h is in
        let a = all.3 in
        let b = subst (λ (l : List Placed). WroteAll u v f l all.2) (sym (same_items r s all packets)) all.4 in
        let same = one all.0 a.then b.then a.text b.text a.last b.last a.note b.note a.made a.at_end b.made b.at_end in
        got_alike w v e f all.5 same.0 (ap (λ l. all.2 ++ l) same.1) a.first b.first a.second b.second
    one_meaning one (inl g) (inr gave_up) is packets = absurd (is.other_done gave_up.failed)
    one_meaning one (inr gave_up) ran is packets = absurd (is.done gave_up.failed)

pub one_count : (R S W V E F : Type 0) → OneTable → OneCount R S W V E F
one_count R S W V E F one_table r s w v e f settings most more selection copy end other alike (inl g) (inl h) is =
    let form = table_form settings.as_json in
    let all = all_alike MakesCounts EndsCounts (first_counts form selection) (first_counts form copy) r s w v e f settings g h is in
    let told = all.2 in
    let a = all.3 in
    let b = all.4 in
    let one = counts_all form selection all.0 a.then a.text a.last a.note a.made a.at_end in
    let too = counts_all form copy all.1 b.then b.text b.last b.note b.made b.at_end in
    let known_first = same_first selection copy alike in
    let items : items_of one.0 ≡ items_of too.0
    = same_selected selection copy alike (λ m. m.item) (λ m l e. ap (λ (i : CutMessage). i.message) e) _ _ all.0 all.1 one.0 too.0 known_first (items_alike (r.packets r.old) (s.packets s.old) 1 0 all.6 all.0 all.1 all.7 all.8) one.1 too.1 in
    let placed : AreOfSamePackets r s → one.0 ≡ too.0
    = λ packets. sym (map-id one.0) ∙ (same_selected selection copy alike (λ m. m) (λ m l e. ap (λ (x : Placed). x.item.message) e) _ _ all.0 all.1 one.0 too.0 known_first (ap (map (λ m. m)) (same_items r s all packets)) one.1 too.1 ∙ map-id too.0) in
    let same = subst (λ (l : List CutMessage). AreTables form (λ name. after_messages l name None) words too.2.tables) (sym items) too.2.are in
    let table = one_table form (counting one.0) words one.2.tables too.2.tables one.2.are same in
    let note : told ++ a.note ≡ told ++ b.note = ap (λ l. told ++ l) (one.3 ∙ sym too.3) in
    let second = subst (λ l. Wrote f.held f.failures f.old l f.new) (sym note) b.second in
    let text : a.text ++ a.last ≡ one.2.tables ++ span_text form (span_of one.0) = λ i. a.made.none i ++ one.2.is i in
    let other_text : b.text ++ b.last ≡ one.2.tables ++ span_text form (span_of too.0) = λ i. b.made.none i ++ (too.2.is ∙ ap (λ l. l ++ span_text form (span_of too.0)) (sym table)) i in (
      record {
        status_is = all.5;
        tables = one.2.tables;
        span = span_of one.0;
        other_span = span_of too.0;
        one = subst (λ l. Wrote w.held w.failures w.old l w.new) text a.first;
        same = subst (λ l. Wrote v.held v.failures v.old l v.new) other_text b.first;
        second = (told ++ a.note, a.second, second);
      },
      λ packets. got_alike w v e f all.5 (text ∙ (ap (λ (l : List Placed). one.2.tables ++ span_text form (span_of l)) (placed packets) ∙ sym other_text)) note a.first b.first a.second b.second,
    )
one_count R S W V E F one_table r s w v e f settings most more selection copy end other alike (inl g) (inr gave_up) is = absurd (is.other_done gave_up.failed)
one_count R S W V E F one_table r s w v e f settings most more selection copy end other alike (inr gave_up) counted is = absurd (is.done gave_up.failed)

-- of the same messages the note is the same
one_note : (lacks : Bool) (xs : List Numbered) (note other : List ℕ) → IsNote lacks xs note → IsNote lacks xs other → note ≡ other
one_note lacks xs note other h k =
    let count = one_stray [] xs h.1.0 k.1.0 h.1.1 k.1.1 in
    let same : h.0 ≡ k.0 = h.1.2 ∙ (ap (λ n. min n (2 ^ 64 - 1)) count ∙ sym k.1.2) in
    h.2 ∙ (ap (notes lacks) same ∙ sym k.2)

pub one_calls : (R S W V E F : Type 0) → OneCalls R S W V E F
one_calls R S W V E F r s w v e f settings wanted most more end other = one_meaning MakesCalls EndsCalls (first_calls wanted) (first_calls wanted) r s w v e f settings (λ items a b p q x y m n made ends again too.
    let h = rows_all wanted items a p x m made ends in
    let k = rows_all wanted items b q y n again too in
    (h.2 ∙ (ap (rows_text wanted) (one_list (all_named items) h.0 k.0 h.1 k.1) ∙ sym k.2), one_note (lack_times wanted items) (all_named items) m n h.3 k.3))

pub one_sums : (R S W V E F : Type 0) → OneSums R S W V E F
one_sums R S W V E F r s w v e f settings wanted most more end other = one_meaning MakesSums EndsSums (first_sums wanted) (first_sums wanted) r s w v e f settings (λ items a b p q x y m n made ends again too.
    let h = sums_all wanted items a p x m made ends in
    let k = sums_all wanted items b q y n again too in
    let rows = one_list (numbered items) h.0.0 k.0.0 h.0.1 k.0.1 in
    let table = one_member_table wanted.form (sums (ended_rows members wanted h.0.0)) x y h.0.2 (subst (λ (l : List Row). IsTable wanted.form (sums (ended_rows members wanted l)) y) (sym rows) k.0.2) in
    (λ i. (made.none ∙ sym again.none) i ++ table i, one_note (lack_times wanted items) (numbered items) m n h.1 k.1))

-- ---- runs under limits alone

-- settings that ask for no more than these
abbrev limits_alone : Limits → Settings
limits_alone limits = record { limits = limits; as_json = false; explains = false; keeps_going = false; resync = Off; handshake = None; window = record { skip = 0; limit = None; checks_rest = false } }

whole_cut : (limits : Limits) (input bytes rest : List ℕ) (left0 left1 : Option (List ℕ)) (items : List CutMessage) (outcome : CutOutcome) → left0 ≡ Some input → IsBytes input → Consumes left0 left1 bytes
    → IsCut limits bytes items rest outcome → (((f : Fault) → outcome ≡ Refused f → ⊥) → IsAtEnd left1)
    → (more : List ℕ) × IsCut limits input items (rest ++ more) outcome × EndsAll limits None None (limits_alone limits) (sizes items) 0 rest more outcome
whole_cut limits input bytes rest left0 left1 items outcome known are consumed cut at_end =
    let after = left_over left0 left1 input bytes known consumed in
    let last = rest ++ after.0 in
    let begin = subst (λ l. BeginWith limits l items last) (sym after.2) (BeginWith-more limits bytes items rest after.0 cut.messages) in
    let all = parts_bytes limits input (wholes items) last (parts_of limits input items last begin) are in
    let none : IsAtEnd left1 → after.0 ≡ [] = λ e. subst IsAtEnd after.1 e in
    let ends = ends_here limits None None (limits_alone limits) (sizes items) 0 rest after.0 outcome (IsAtEnd left1) none all cut.outcome_is (is_last None (limits_alone limits) limits (sizes items) 0 rest outcome (IsAtEnd left1) refl at_end) in
    (after.0, record { messages = begin; outcome_is = ends.ends.outcome_is }, ends)

-- the lines of a fault are the same if its packet is
lines_alike : (count size : ℕ) (fault : Option Fault) (p q : Option ℕ) → ((f : Fault) → fault ≡ Some f → p ≡ q)
    → (check_line count size fault p ≡ check_line count size fault q) × (fault_line size fault p ≡ fault_line size fault q)
lines_alike count size None p q one = (refl, refl)
lines_alike count size (Some fault) p q one = let is = one fault refl in (ap (check_line count size (Some fault)) is, ap (fault_line size (Some fault)) is)

-- what has a fault is refused
not_done : (fault : Option Fault) (f : Fault) (end : ExitStatus) → fault ≡ Some f → end ≡ status_of fault → end ≡ status.Done → ⊥
not_done None f end is by done = absurd cc
not_done (Some fault) f end is by done = let never : status.Refused ≡ status.Done = sym by ∙ done in absurd cc

-- the fault of the rest is of one packet
packets_alike : (limits : Limits) (all : Packets) (packets others : Option Packets) (rest last w front : List ℕ) (size long : ℕ) (fault because : Option Fault) (f : Fault) (p q : Option ℕ)
    → packets ≡ Some all → others ≡ Some all → long ≡ size → fault ≡ Some f → because ≡ Some f → HaveSameFronts limits rest w → HaveSameFronts limits last w → IsFaultFront limits w front
    → IsFaultIn packets limits size rest fault p → IsFaultIn others limits long last because q → p ≡ q
packets_alike limits all packets others rest last w front size long fault because f p q one too place is by fronts fronts_too is_front x y =
    let here = transport (λ i. IsFaultIn (one i) limits size rest (is i) p) x in
    let there = transport (λ i. IsFaultIn (too i) limits (place i) last (by i) q) y in
    one_packet limits all size w front p q is_front (refused_as limits rest w fronts (Some all) size p here) (refused_as limits last w fronts_too (Some all) size q there)

told_line : {E : Type 0} (e : Writing E) (line : List ℕ) (fault : Option Fault) (end : ExitStatus) → end ≢ status.Failed → TellsLine e line fault end
    → Wrote e.held e.failures e.old line e.new × (end ≡ status_of fault)
told_line e line fault end done tells = elim tells [ inl all ↦ all | inr some ↦ absurd (done some.2) ]

pub one_within : (R S W V E F : Type 0) → OneWithin R S W V E F
one_within R S W V E F r s w v e f limits most more command copy end other same exact placed_alike input alike done other_done runs ran = elim runs [
  | inl a ↦ elim ran [
    | inl b ↦ (
        let acts = acts_as command copy same in
        let one = whole_cut limits input.0 a.bytes a.rest (r.left r.old) (r.left r.new) a.items a.outcome input.2 input.1 a.consumed a.cut a.at_end in
        let too = whole_cut limits input.0 b.bytes b.rest (s.left s.old) (s.left s.new) b.items b.outcome input.3 input.1 b.consumed b.cut b.at_end in
        let cut = IsCut-one limits input.0 a.items b.items (a.rest ++ one.0) (b.rest ++ too.0) a.outcome b.outcome one.1 too.1 in
        let fault : fault_at_end a.rest a.outcome ≡ fault_at_end b.rest b.outcome = one.2.fault_is ∙ ((λ i. fault_at_end (cut.1 i) (cut.2 i)) ∙ sym too.2.fault_is) in
        let there = subst (λ (l : List CutMessage). ArePlaced (s.packets s.old) 1 0 (wholes l) b.output.messages) (sym cut.0) b.output.placed in
        let texts = same_outputs command copy acts exact (r.packets r.old) (s.packets s.old) placed_alike (wholes a.items) a.output.messages b.output.messages a.output.texts b.output.texts a.output.placed there
        a.output.each b.output.each in
        let told = told_line e _ _ end done a.second in
        let told_too = told_line f _ _ other other_done b.second in
        let size : sizes b.items ≡ sizes a.items = ap sizes (sym cut.0) in
        let fronts_too = subst (λ (l : List ℕ). HaveSameFronts limits b.rest l) (sym cut.1) too.2.fronts in
        let packet : (why : Fault) → fault_at_end a.rest a.outcome ≡ Some why → a.packet ≡ b.packet = λ why is. elim alike [
          | inl both ↦ packets_alike limits both.all (r.packets r.old) (s.packets s.old) a.rest b.rest (a.rest ++ one.0) one.2.ends.front (sizes a.items) (sizes b.items) (fault_at_end a.rest a.outcome) (fault_at_end b.rest b.outcome) why
              a.packet b.packet both.one both.same size is (sym fault ∙ is) one.2.fronts fronts_too one.2.ends.is_front a.packet_is b.packet_is
          | inr all ↦ absurd (not_done (fault_at_end a.rest a.outcome) why end is told.1 all)
        ] in
        let lines = lines_alike (length a.items) (sizes a.items) (fault_at_end a.rest a.outcome) a.packet b.packet packet in
        let last : last_line command (length a.items) (sizes a.items) (fault_at_end a.rest a.outcome) a.packet ≡ last_line copy (length b.items) (sizes b.items) (fault_at_end b.rest b.outcome) b.packet
        = ap (first_of (is_check command.output) []) lines.0 ∙ (λ i. first_of (acts.checks i) [] (check_line (length (cut.0 i)) (sizes (cut.0 i)) (fault i) b.packet)) in
        let header : header_before (form_of command.output) false a.output.messages ≡ header_before (form_of copy.output) false b.output.messages
        = header_one (form_of command.output) (r.packets r.old) (s.packets s.old) false 1 0 (wholes a.items) a.output.messages b.output.messages placed_alike a.output.placed there ∙ ap (λ (f : FileForm). header_before f false b.output.messages) acts.form in
        let out : a.out ≡ b.out = a.output.joined ∙ ((λ i. (header i ++ concat (texts i)) ++ last i) ∙ sym b.output.joined) in
        let line : second_output command (sizes a.items) (fault_at_end a.rest a.outcome) a.packet ≡ second_output copy (sizes b.items) (fault_at_end b.rest b.outcome) b.packet
        = ap (second_of (is_check command.output)) lines.1 ∙ (λ i. second_of (acts.checks i) (fault_line (sizes (cut.0 i)) (fault i) b.packet)) in
        got_alike w v e f (told_too.1 ∙ (ap status_of (sym fault) ∙ sym told.1)) out line a.first b.first told.0 told_too.0
        )
    | inr gave_up ↦ absurd (other_done gave_up.failed)
  ]
  | inr gave_up ↦ absurd (done gave_up.failed)
]
