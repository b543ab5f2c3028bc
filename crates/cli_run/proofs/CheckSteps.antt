-- How `check` ends if it counts the messages, and writes one line.
use Rattle.std.proofs.Common.{◌≡◌, ◌≢◌, ◌∙◌, ℕ, Bool, true, false, List, [], ◌∷◌, ◌++◌, None, Some, Option, Ok, Err, take, drop, refl, sym, ap, subst, take-append-drop, inl, inr}
use Rattle.std.specs.FinSet.{empty}
use Rattle.dbus_names.specs.NameStates.{known_first}
use Rattle.dbus_value_model.specs.declared.fault.Fault.{Fault}
use Rattle.dbus_device.specs.Device.{Wrote, Stopped}
use Rattle.cli_options.specs.declared.settings.Settings.{Settings}
use Rattle.cli_options.specs.declared.window.Window.{Window}
use Rattle.cli_run.specs.ByName.{Tallies}
use Rattle.cli_run.specs.Told.{GotFirst, GotSecond, IsUnwritten, TellsStop, WritesLine}
use Rattle.cli_run.specs.Going.{IsMore, IsStopOf, IsThrough, StopsWithin, closing_line}
use Rattle.cli_run.specs.Inputs.{ArePlaced, Placed}
use Rattle.cli_run.specs.Output.{IsOutputOfAll, after, check_line, fault_line, is_spent, status_of}
use Rattle.cli_run.specs.Running.{RunsWith, Writes, WritesSome, check}
use Rattle.cli_run.specs.Making.{FillsFrom}
use Rattle.cli_run.specs.Rendering.{Makes, OutputState, first_state, is_full, state_after}
use Rattle.cli_run.specs.RenderingLaws.{and_false, no_header}
use Rattle.cli_run.specs.VisitorLaws.{told_nothing, written_none, wrote_nothing}
use Rattle.cli_run.specs.Visiting.{WantsAll}
use Rattle.cli_report.specs.Devices.{Reading, Writing, taken, writing}
use Rattle.cli_report.specs.Telling.{Told}
use Rattle.cli_report.specs.declared.ending.ExitStatus.{ExitStatus}
use Rattle.cli_report.specs.declared.ending.ExitStatus.TheVariants as status
use Rattle.cli_report.specs.declared.ending.Cause.{Cause}
use Rattle.cli_report.specs.declared.ending.Cause.TheVariants.{Memory, WriteFailed}
use Rattle.cli_run.specs.declared.counted.Counted.{Counted}
use Rattle.cli_run.specs.declared.tally.Tally.{Tally}
use Rattle.cli_run.specs.declared.visitor.RunStop.{RunStop}
use Rattle.cli_run.specs.declared.visitor.RunStop.TheVariants.{Cause as ByCause, Untold}
use Rattle.cli_run.proofs.EndSteps.{stops_as}
use Rattle.cli_run.proofs.PartLaws.{line_is, some_placed}
use Rattle.cli_run.proofs.Wanted.{wanted_all}

-- `check` writes nothing of a message
no_output : (items : List Placed) → IsOutputOfAll check (known_first empty) items []
no_output [] = refl
no_output (m ∷ items) = ([], [], refl, inr (λ never. never, refl), no_output items)

module _ (window : Window) where
  abbrev start : OutputState
  start = first_state check window

  makes_none : (items : List Placed) → Makes start items [] (state_after start items 0)
  makes_none items = record { texts = []; made = no_output items; text_is = sym (λ i. no_header false items i ++ written_none window i); then = refl }

  -- it wants all
  abbrev Filled : List Placed → Bool → Type 0
  Filled items filled = FillsFrom Makes start is_full items filled

  filled_as : (items : List Placed) (filled : Bool) → WantsAll items filled → Filled items filled
  filled_as items filled all = (state_after start items 0, [], makes_none items, and_false (is_spent (after window 0)) ∙ sym all)

-- the line is not empty
some_line : (count size : ℕ) (fault : Option Fault) (packet : Option ℕ) → check_line count size fault packet ≢ []
some_line count size None packet none = absurd cc
some_line count size (Some fault) packet none = absurd cc

abbrev tally_of : Counted → Tally
tally_of counted = record { count = counted.count; size = counted.size; passed = 0; passed_size = 0; is_cut = false }

module _ {R W E : Type 0} (r : Reading R) (w : Writing W) (e : Writing E) (settings : Settings) (most : ℕ) where
  abbrev Ends : ExitStatus → Type 0
  Ends end = RunsWith r w e settings most check end

  -- the second writer was told nothing before
  abbrev Within : RunStop → Type 0
  Within stop = StopsWithin (taken r) settings most true (Filled settings.window) (WritesSome w (writing e.held e.failures e.old e.old) settings check) stop

  stops : (stop : RunStop) (end : ExitStatus) → end ≡ status.Failed → TellsStop e.held e.failures true stop e.old e.new → Within stop → Ends end
  stops stop end failed tells within = inr (record { failed = failed; stop = stop; before = e.old; within = within; tells = tells })

  -- nothing was written, since reading was given up
  got_none : (cause : Cause) → IsUnwritten (ByCause cause) → w.new ≡ w.old → GotFirst w.held w.failures true (ByCause cause) [] w.old w.new
  got_none WriteFailed never same = absurd never
  got_none cause never same = told_nothing w.held w.failures true w.old w.new same

  wrote_none : (cause : Cause) → w.new ≡ w.old → (items : List Placed) (told : List ℕ) → IsUnwritten (ByCause cause) × (told ≡ [])
      → WritesSome w (writing e.held e.failures e.old e.old) settings check items told (ByCause cause)
  wrote_none cause same items told none = record {
    then = state_after (start settings.window) items 0;
    text = [];
    made = makes_none settings.window items;
    first = subst (λ (l : List ℕ). GotFirst w.held w.failures true (ByCause cause) l w.old w.new) (sym none.1) (got_none cause none.0 same);
    still = λ _. (none.0, same);
    second = wrote_nothing e.held e.failures e.old;
  }

  pub gave_up : (cause : Cause) (packet : Option ℕ) → w.new ≡ w.old → Tallies r settings most packet (Err cause) → (end : ExitStatus) → end ≡ status.Failed → Told e.held e.failures e.old e.new cause → Ends end
  gave_up cause packet same s end failed told = stops (ByCause cause) end failed told (stops_as (filled_as settings.window) (λ parts items told placed h. wrote_none cause same items told h) s)

  abbrev Through : Counted → (packet : Option ℕ) → Type 0
  Through counted packet = IsThrough (taken r) settings most true (tally_of counted) counted.fault [] (fault_line counted.size counted.fault packet)

  -- all messages were counted
  module _ (counted : Counted) (packet : Option ℕ) (tallied : Tallies r settings most packet (Ok counted)) (in_words : settings.as_json ≡ false) (halts : settings.keeps_going ≡ false) where
    abbrev t : Through counted packet
    t = tallied.0

    abbrev text : List ℕ
    text = fault_line counted.size counted.fault packet

    abbrev all : List ℕ
    all = text ++ closing_line settings.as_json true settings.keeps_going (tally_of counted) 0 counted.fault

    all_is : all ≡ check_line counted.count counted.size counted.fault packet
    all_is = (λ i. text ++ closing_line (in_words i) true (halts i) (tally_of counted) 0 counted.fault) ∙ line_is (tally_of counted) counted.fault packet

    abbrev line : List ℕ
    line = check_line counted.count counted.size counted.fault packet

    is_some : all ≢ []
    is_some none = some_line counted.count counted.size counted.fault packet (sym all_is ∙ none)

    some : (messages : List Placed) × ArePlaced (r.packets r.old) 1 0 t.parts messages
    some = some_placed (r.packets r.old) 1 0 t.parts

    unfilled : (l : List Placed) → Filled settings.window l false
    unfilled l = filled_as settings.window l false refl

    -- the line was written, and the second writer got nothing
    pub line_written : (end : ExitStatus) → Wrote w.held w.failures w.old line w.new → e.new ≡ e.old → end ≡ status_of counted.fault → Ends end
    line_written end wrote same end_is =
        let first = subst (λ (l : List ℕ). Wrote w.held w.failures w.old l w.new) (sym all_is) wrote in
        let came : Writes w e settings check some.0 all = record { then = state_after (start settings.window) some.0 0; text = []; made = makes_none settings.window some.0; first = first; still = λ none. absurd (is_some none); second = told_nothing e.held e.failures true e.old e.new same } in
        inl (inl (
          record {
            tally = tally_of counted;
            fault = counted.fault;
            told = [];
            text = text;
            through = t;
            messages = some.0;
            placed = some.1;
            wanted = wanted_all (Filled settings.window) unfilled [] some.0;
            unfilled = unfilled some.0;
            came = came;
            end_is = end_is;
          },
          tallied.1,
        ))

    -- or not all of it
    within : (stop : RunStop) (more : List ℕ) → IsMore (taken r) settings most true (Filled settings.window) stop t.parts t.rest some.0 more → IsStopOf (taken r) most stop → GotFirst w.held w.failures true stop more w.old w.new → (more ≡ [] → IsUnwritten stop × (w.new ≡ w.old))
        → GotSecond e.held e.failures true stop [] e.old e.old → Within stop
    within stop more due caused first still second = record {
      parts = t.parts;
      rest = t.rest;
      told = [];
      covers = t.covers;
      messages = some.0;
      placed = some.1;
      wanted = wanted_all (Filled settings.window) unfilled [] some.0;
      unfilled = λ _. unfilled some.0;
      more = more;
      all = due;
      caused = caused;
      came = record { then = state_after (start settings.window) some.0 0; text = []; made = makes_none settings.window some.0; first = first; still = still; second = second };
    }

    pub line_not : (cause : Cause) → WritesLine w.held w.failures line w.old w.new (Err cause) → (end : ExitStatus) → end ≡ status.Failed → Told e.held e.failures e.old e.new cause → Ends end
    line_not Memory same end failed told =
        stops (ByCause Memory) end failed told (within (ByCause Memory) [] (inl refl) t.read_failed (told_nothing w.held w.failures true w.old w.new same) (λ _. (tt, same)) (wrote_nothing e.held e.failures e.old))
    line_not WriteFailed (n, half) end failed told =
        let s = subst (λ (l : List ℕ). Stopped w.held w.failures w.old l n w.new) (sym all_is) half in
        let due = inr (t.cut, t.last, ap (λ (x : Tally). text ++ closing_line settings.as_json true settings.keeps_going x x.passed counted.fault) t.tally_is) in
        stops Untold end failed told (within Untold all (inl (counted.fault, text, t.tells, due)) t.read_failed
        (record { written = take n all; appended = s.appended; front = (drop n all, sym (take-append-drop n all)); some = is_some; failed = s.failed }) (λ none. absurd (is_some none)) (wrote_nothing e.held e.failures e.old))
    line_not cause never end failed told = absurd never
