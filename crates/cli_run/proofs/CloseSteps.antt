-- How a run ends after its parts, by its last line.
use Rattle.std.proofs.Common.{◌≡◌, ℕ, List, [], ◌++◌, Bool, true, Option, None, Result, Ok, Err, length, refl, sym, ap, ◌∙◌, subst, arith, inl, inr, append_assoc, append-nil}
use Rattle.dbus_value_model.specs.declared.fault.Fault.{Fault}
use Rattle.dbus_stream.specs.RawReading.{kept, most_reads_of}
use Rattle.dbus_stream.specs.declared.raw_reader.RawReader.{RawReader}
use Rattle.cli_run.specs.Going.{Closes, IsEnough, PassesAll, HasLastLine, closing_line, passed_count, status_at, tally_of}
use Rattle.cli_run.specs.Inputs.{Placed}
use Rattle.cli_run.specs.Needed.{WantMore, WantToSee}
use Rattle.cli_run.specs.Visiting.{AddsUp}
use Rattle.cli_report.specs.declared.ending.Cause.TheVariants.{Memory}
use Rattle.cli_report.specs.declared.ending.ExitStatus.{ExitStatus}
use Rattle.cli_run.specs.declared.tally.Tally.{Tally}
use Rattle.cli_run.specs.declared.visitor.RunStop.{RunStop}
use Rattle.cli_run.specs.declared.visitor.RunStop.TheVariants.{Cause as ByCause, Untold}
use Rattle.cli_run.proofs.GoSteps.{Begun, Fills, HasEnded, HasEnough, covers, Reads, Took, stops_plain}
use Rattle.cli_run.proofs.NeededSteps.{reads_only}

module _ {R A S : Type 0} {takes : S → S → List Placed → (told : List ℕ) → Type 0} {full : S → Bool} {run : Begun R A S} {new : RawReader R A} {tally : Tally} {fault : Option Fault} {s1 : S}
    (h : HasEnded run takes full new tally fault s1) where
  abbrev all : List Placed
  all = h.messages

  abbrev line : List ℕ
  line = closing_line run.settings.as_json run.is_check run.settings.keeps_going tally tally.passed fault

  module _ {leaves : S → S → List Placed → (told : List ℕ) → RunStop → Type 0} {settled : S → Type 0} (laws : AddsUp takes leaves settled full) (rests : settled s1) (s2 : S) where
    pub closes : (res : Result ExitStatus RunStop) → Closes takes leaves run.settings.as_json run.is_check run.settings.keeps_going tally fault s1 s2 res
        → PassesAll (Reads run new) run.settings (most_reads_of run.old) run.is_check takes leaves full run.s0 s2 res
    closes (Ok end) c =
        let came = subst (λ (l : List Placed). takes run.s0 s2 l ((h.told ++ h.text) ++ line)) (append-nil all) (laws.joins run.s0 s1 s2 all [] (h.told ++ h.text) line h.came c.0) in
        inl (
          record {
            tally = tally;
            fault = fault;
            told = h.told;
            text = h.text;
            through = h.through;
            messages = all;
            placed = h.placed;
            wanted = h.wanted;
            unfilled = (s2, (h.told ++ h.text) ++ line, came, laws.still s1 s2 line c.0 ∙ h.unfilled);
            came = came;
            end_is = c.1;
          },
          λ faultless. reads_only (Reads run new) (WantToSee run.settings.limits h.through.parts h.through.rest) (h.needed faultless),
        )
    closes (Err (ByCause Memory)) c =
        let passed = ap (λ (x : Tally). x.passed) h.through.tally_is in
        record {
          parts = h.through.parts;
          rest = h.through.rest;
          told = h.told;
          covers = h.through.covers;
          messages = all;
          placed = h.placed;
          wanted = h.wanted;
          unfilled = λ never. absurd never;
          more = h.text;
          all = inr (inl (fault, h.through.tells, h.through.cut, h.through.last, subst (λ (n : ℕ). HasLastLine run.is_check run.settings.keeps_going n fault) passed c.1));
          caused = h.through.read_failed;
          came = subst (λ (s : S). leaves run.s0 s all (h.told ++ h.text) (ByCause Memory)) (sym c.0) (laws.rests run.s0 s1 all (h.told ++ h.text) h.came rests).0;
        }
    closes (Err (ByCause cause)) c = absurd c
    closes (Err Untold) c =
        let came = subst (λ (l : List Placed). leaves run.s0 s2 l ((h.told ++ h.text) ++ line) Untold) (append-nil all) (laws.leaves_after run.s0 s1 s2 all [] (h.told ++ h.text) line Untold h.came c) in
        record {
          parts = h.through.parts;
          rest = h.through.rest;
          told = h.told;
          covers = h.through.covers;
          messages = all;
          placed = h.placed;
          wanted = h.wanted;
          unfilled = λ never. absurd never;
          more = h.text ++ line;
          all = inl (fault, h.text, h.through.tells, inr (h.through.cut, h.through.last, ap (λ (x : Tally). h.text ++ closing_line run.settings.as_json run.is_check run.settings.keeps_going x x.passed fault) h.through.tally_is));
          caused = h.through.read_failed;
          came = subst (λ (l : List ℕ). leaves run.s0 s2 all l Untold) (append_assoc h.told h.text line) came;
        }

-- the same if no more is wanted after them
module _ {R A S : Type 0} {takes : S → S → List Placed → (told : List ℕ) → Type 0} {full : S → Bool} {run : Begun R A S} {new : RawReader R A} {tally : Tally} {s1 : S}
    (h : HasEnough run takes full new tally s1) {leaves : S → S → List Placed → (told : List ℕ) → RunStop → Type 0} {settled : S → Type 0} (laws : AddsUp takes leaves settled full) (rests : settled s1) (s2 : S) where
  abbrev due : List ℕ
  due = closing_line run.settings.as_json run.is_check run.settings.keeps_going tally tally.passed None

  due_is : due ≡ closing_line run.settings.as_json run.is_check run.settings.keeps_going (tally_of h.parts) (passed_count h.parts) None
  due_is = ap (λ (x : Tally). closing_line run.settings.as_json run.is_check run.settings.keeps_going x x.passed None) h.tally_is

  -- of the parts
  enough_after : (s : S) (told : List ℕ) → takes run.s0 s h.messages told → full s ≡ true
      → IsEnough (Took run new) run.settings (most_reads_of run.old) run.is_check (Fills run takes full) h.parts h.messages due
  enough_after s told took enough = (h.last, (s, told, took, enough), due_is)

  pub closes_enough : (res : Result ExitStatus RunStop) → Closes takes leaves run.settings.as_json run.is_check run.settings.keeps_going tally None s1 s2 res
      → PassesAll (Reads run new) run.settings (most_reads_of run.old) run.is_check takes leaves full run.s0 s2 res
  closes_enough (Ok end) c =
      let came = subst (λ (l : List Placed). takes run.s0 s2 l (h.told ++ due)) (append-nil h.messages) (laws.joins run.s0 s1 s2 h.messages [] h.told due h.came c.0) in
      inr (record {
        parts = h.parts;
        rest = kept new;
        told = h.told;
        line = due;
        covers = covers run new h.parts (kept new) h.told h.covered;
        messages = h.messages;
        placed = h.placed;
        wanted = h.wanted;
        enough = enough_after s2 (h.told ++ due) came (laws.still s1 s2 due c.0 ∙ h.enough);
        reads = reads_only (Reads run new) (WantMore run.settings.limits 0 h.parts) h.needed;
        read_failed = h.failed;
        came = came;
        end_is = c.1 ∙ ap (λ (x : Tally). status_at x.passed None) h.tally_is;
      })
  closes_enough (Err (ByCause Memory)) c =
      stops_plain run takes leaves full Memory new h.parts (kept new) h.told s2 h.covered h.messages (inl refl) h.failed h.placed h.wanted (λ never. absurd never)
      (subst (λ (s : S). leaves run.s0 s h.messages h.told (ByCause Memory)) (sym c.0) (laws.rests run.s0 s1 h.messages h.told h.came rests).0)
  closes_enough (Err (ByCause cause)) c = absurd c
  closes_enough (Err Untold) c = record {
    parts = h.parts;
    rest = kept new;
    told = h.told;
    covers = covers run new h.parts (kept new) h.told h.covered;
    messages = h.messages;
    placed = h.placed;
    wanted = h.wanted;
    unfilled = λ never. absurd never;
    more = due;
    all = inr (enough_after s1 h.told h.came h.enough);
    caused = h.failed;
    came = subst (λ (l : List Placed). leaves run.s0 s2 l (h.told ++ due) Untold) (append-nil h.messages) (laws.leaves_after run.s0 s1 s2 h.messages [] h.told due Untold h.came c);
  }
