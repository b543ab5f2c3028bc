-- The next message of a reader, which first looks at what it keeps.
use Rattle.std.proofs.Common.{◌≡◌, ℕ, Bool, true, false, List, [], Some, None, Err, Ok, Option, refl, sym, ap, ◌∙◌, subst, append-nil, inl}
use Rattle.dbus_validate.specs.declared.validating.Validated.{Validated}
use Rattle.dbus_stream.specs.Next.{DeviceCounts}
use Rattle.dbus_stream.specs.declared.read_fault.ReadFault.{ReadFault}
use Rattle.dbus_stream.specs.declared.read_fault.ReadFault.TheVariants as read
use Rattle.dbus_stream.specs.RawReading.{Advances, KeptAnswers, Lends, ReadsNothing, kept, source_of, stopped_of}
use Rattle.dbus_stream.specs.declared.raw_reader.RawReader.{RawReader}
use Rattle.dbus_stream.proofs.RawSteps.{starts, unread}
use Rattle.cli_report.specs.declared.ending.Cause.TheVariants.{WriteFailed}
use Rattle.cli_run.specs.Handing.{GivesNext, Stays}
use Rattle.cli_run.specs.Inputs.{Placed}
use Rattle.cli_run.specs.Visiting.{AddsUp}
use Rattle.cli_run.specs.declared.counted.NoMessage.TheVariants.{Reader, Writer, Enough}
use Rattle.cli_run.specs.declared.visitor.RunStop.{RunStop}
use Rattle.cli_run.specs.declared.visitor.RunStop.TheVariants.{Cause as ByCause}

pub stays : {R A : Type 0} (old : RawReader R A) → stopped_of old ≡ None → Stays old old
stays old unstopped = record { unread = record { source = refl; reads = refl; most_reads = refl; limits = refl; ended = refl; read = refl; last = refl; packed = refl }; kept_is = refl; done = refl; unstopped = unstopped }

-- it looked at what it keeps, which begins with no whole message
pub looked : {R A : Type 0} (old mid from : RawReader R A) → ReadsNothing old mid → KeptAnswers old mid (Ok None) → Stays mid from → Stays old from
looked old mid from n k s =
    let m = s.unread in
    record {
      unread = record { source = m.source ∙ n.source; reads = m.reads ∙ n.reads; most_reads = m.most_reads ∙ n.most_reads; limits = m.limits ∙ n.limits; ended = m.ended ∙ n.ended; read = m.read ∙ n.read; last = m.last ∙ n.last; packed = m.packed ∙ n.packed };
      kept_is = s.kept_is ∙ k.0.kept;
      done = s.done ∙ k.0.done;
      unstopped = s.unstopped;
    }

module _ {R A S : Type 0} (left : R → Option (List ℕ)) (calls failures : R → ℕ) {takes : S → S → List Placed → (told : List ℕ) → Type 0}
    {leaves : S → S → List Placed → (told : List ℕ) → RunStop → Type 0} {settled : S → Type 0} {full : S → Bool} (laws : AddsUp takes leaves settled full) (old new : RawReader R A) (unstopped : stopped_of old ≡ None)
    (n : ReadsNothing old new) where
  -- a message that is kept
  pub gives_kept : (j : Validated) (s : S) → full s ≡ false → Lends (kept old) j old new → GivesNext left calls failures takes leaves settled full old new s s (Ok (Some j))
  gives_kept j s unfilled l = (
    old,
    stays old unstopped,
    (
      unread left calls old old new (starts left calls old) n,
      subst (λ (v : List ℕ). Lends v j old new) (sym (append-nil (kept old))) l,
      ap failures n.source,
      laws.nothing s,
      λ none. absurd cc,
      unfilled,
    ),
  )

  kept_fault : (fault : ReadFault) → KeptAnswers old new (Err fault) → Advances (kept old) old new (Err fault)
  kept_fault read.Memory k = k
  kept_fault (read.Format fault) k = (k.0, k.1, inl k.2, k.3)
  kept_fault fault k = absurd k

  -- a fault of what is kept
  pub gives_kept_fault : (fault : ReadFault) (s0 s1 : S) → full s0 ≡ false → KeptAnswers old new (Err fault)
      → DeviceCounts {T = Option Validated} (failures (source_of old)) (failures (source_of new)) (Err fault) → takes s0 s1 [] [] → settled s1
      → GivesNext left calls failures takes leaves settled full old new s0 s1 (Err (Reader fault))
  gives_kept_fault fault s0 s1 unfilled k counts go rests = (
    old,
    stays old unstopped,
    (unread left calls old old new (starts left calls old) n, subst (λ (v : List ℕ). Advances v old new (Err fault)) (sym (append-nil (kept old))) (kept_fault fault k), counts, go, rests, laws.still s0 s1 [] go ∙ unfilled),
  )

  -- the visitor could not let go of what it held back, and nothing was read
  pub gives_unwritten : (s0 s1 : S) → leaves s0 s1 [] [] (ByCause WriteFailed) → GivesNext left calls failures takes leaves settled full old new s0 s1 (Err Writer)
  gives_unwritten s0 s1 back = (old, stays old unstopped, (unread left calls old old new (starts left calls old) n, back, ap failures n.source))

-- no more is wanted
pub gives_enough : {R A S : Type 0} (left : R → Option (List ℕ)) (calls failures : R → ℕ) {takes : S → S → List Placed → (told : List ℕ) → Type 0} {leaves : S → S → List Placed → (told : List ℕ) → RunStop → Type 0}
    {settled : S → Type 0} {full : S → Bool} (laws : AddsUp takes leaves settled full) (old : RawReader R A) → stopped_of old ≡ None → (s0 s1 : S) → full s0 ≡ true → takes s0 s1 [] [] → settled s1
    → GivesNext left calls failures takes leaves settled full old old s0 s1 (Err Enough)
gives_enough left calls failures laws old unstopped s0 s1 enough go rests = (old, stays old unstopped, (refl, go, rests, laws.still s0 s1 [] go ∙ enough))
