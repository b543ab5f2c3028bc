-- What becomes of a writer of an output by one message, if it writes what is gathered, and by a
-- text that it tells; and what the writers got of a run then.
use Rattle.std.proofs.Common.{◌≡◌, ◌≢◌, ℕ, Bool, true, false, List, [], ◌∷◌, ◌++◌, Option, String, string_bytes, Result, Ok, Err, OnErr, OnOk, inl, inr, refl, sym, ap, ◌∙◌, subst}
use Rattle.std.proofs.Math.Path.{transport}
use Rattle.std.specs.declared.alloc.AllocError.{AllocError}
use Rattle.std.specs.declared.alloc.Global.{Global}
use Rattle.dbus_device.specs.Device.{Wrote}
use Rattle.dbus_device.specs.Packets.{Packets}
use Rattle.cli_options.specs.declared.settings.Settings.{Settings}
use Rattle.cli_report.specs.Devices.{Writing, reading, taken, writing}
use Rattle.cli_report.specs.Gathering.{Breaks, Gathers, Goes as GoesTo, Passes, WritesSome, gathered_bytes}
use Rattle.cli_report.specs.PageLaws.{breaks_after, breaks_more, passes_none}
use Rattle.cli_report.specs.Telling.{Told}
use Rattle.cli_report.proofs.GatherSteps.{breaks_nothing, gathers_some, passes_nothing, passes_unwritten, passes_whole}
use Rattle.cli_report.specs.declared.ending.Cause.{Cause}
use Rattle.cli_report.specs.declared.ending.Cause.TheVariants.{Memory, ReadFailed, WriteFailed, TooManyReads}
use Rattle.cli_report.specs.declared.ending.ExitStatus.{ExitStatus}
use Rattle.cli_report.specs.declared.ending.ExitStatus.TheVariants as status
use Rattle.cli_report.specs.declared.gathering.Unwritten.{Unwritten}
use Rattle.cli_report.specs.declared.output_buffer.OutputBuffer.{OutputBuffer}
use Rattle.cli_report.specs.declared.page.Page.{Page}
use Rattle.cli_run.specs.Going.{Goes, GoesThrough, StopsWithin}
use Rattle.cli_run.specs.Inputs.{ArePlaced, Part, Placed}
use Rattle.cli_run.specs.Making.{EndsAfterAll, EndsSo, FillsFrom, GathersLast, LeavesMade, WritesLast, WritesMade}
use Rattle.cli_run.specs.Needed.{IsReadFor, ReadsToSee, WantToSee}
use Rattle.cli_run.specs.OutputWriting.{GathersNone, GathersOne, LeavesFirst, LeavesWritten, WritesAll}
use Rattle.cli_run.specs.Told.{GotFirst, GotSecond, IsUnwritten, first_of, second_of}
use Rattle.cli_run.specs.Visiting.{FillsBy, LetsGo, TakesOne, TellsOne, WantsAll}
use Rattle.cli_run.specs.VisitorLaws.{first_nothing, stays, told_nothing, wrote_both}
use Rattle.cli_run.specs.declared.output_writer.OutputWriter.{OutputWriter}
use Rattle.cli_run.specs.declared.visitor.RunStop.{RunStop}
use Rattle.cli_run.specs.declared.visitor.RunStop.TheVariants.{Cause as ByCause, Untold}
use Rattle.cli_run.proofs.EndSteps.{ends_as, goes_as, got_first, got_nothing, stops_as, through_by}
use Rattle.cli_run.proofs.NeededSteps.{reads_as}

-- what the first writer gets of a text: all of it, since what makes none has none
first_made : (silent : Bool) (text : List ℕ) → (silent ≡ true → text ≡ []) → text ≡ first_of silent text []
first_made true text none = none refl
first_made false text none = refl

-- what is gathered at the end was not written
pub last_failed : {S W : Type 0} (held : W → Option (List ℕ)) (failures : W → ℕ) (ends : S → (text note : List ℕ) → Type 0) (s : S) (cause : Cause) (g0 g1 : List ℕ) (w0 w1 : W) → g0 ≡ [] → GathersLast ends s (writing held failures w0 w1) g0 g1 (Err cause)
    → WritesLast ends s (writing held failures w0 w1) (Err cause)
last_failed held failures ends s Memory g0 g1 w0 w1 none h = h
last_failed held failures ends s WriteFailed g0 g1 w0 w1 none (text, note, is, broke) = (text, note, is, subst (λ (g : List ℕ). Breaks held failures text g w0 w1) none broke)
last_failed held failures ends s ReadFailed g0 g1 w0 w1 none never = absurd never
last_failed held failures ends s TooManyReads g0 g1 w0 w1 none never = absurd never

-- ---- what went to a page, by whether there was memory for it

module _ {C S W : Type 0} (stands : C → S → Type 0) (held : W → Option (List ℕ)) (failures : W → ℕ) (t : S) (c : C) (text : List ℕ) (p0 p1 : Page W) where
  abbrev Made : Result (Unit {0}) AllocError → Type 0
  Made res = OnOk res (stands c t × GoesTo held failures p0 text p1)

  abbrev Short : Result (Unit {0}) AllocError → Type 0
  Short res = OnErr res (GoesTo held failures p0 [] p1)

  pub same_page : (res : Result (Unit {0}) AllocError) → Made res → Short res → (p1.gathered.ghost_name ≡ p0.gathered.ghost_name) × (p1.first.ghost_name ≡ p0.first.ghost_name)
  same_page (Ok x) made short = (made.1.same_gathered, made.1.same_first)
  same_page (Err e) made short = (short.same_gathered, short.same_first)

  module _ (fresh : p0.failed ≡ false) {w2 : W} (back : p1.first.now ≡ w2) where
    pub gathers_one : {g2 : OutputBuffer} → p1.gathered.now ≡ g2 → p1.failed ≡ false → (res : Result (Unit {0}) AllocError) → Made res → Short res
        → GathersOne stands (writing held failures p0.first.now w2) t c text (gathered_bytes p0.gathered.now) (gathered_bytes g2) (Ok res)
    gathers_one kept ok (Ok x) made short = (made.0, transport (λ i. Passes held failures text (gathered_bytes p0.gathered.now) (gathered_bytes (kept i)) p0.first.now (back i)) (made.1.passes fresh ok))
    gathers_one kept ok (Err e) made short = tt

    pub breaks_one : p1.failed ≡ true → (res : Result (Unit {0}) AllocError) → Made res → Short res → Breaks held failures text (gathered_bytes p0.gathered.now) p0.first.now w2
    breaks_one bad (Ok x) made short = subst (λ (w : W). Breaks held failures text (gathered_bytes p0.gathered.now) p0.first.now w) back (made.1.breaks fresh bad)
    breaks_one bad (Err e) made short =
        breaks_more held failures [] text (gathered_bytes p0.gathered.now) p0.first.now w2 (subst (λ (w : W). Breaks held failures [] (gathered_bytes p0.gathered.now) p0.first.now w) back (short.breaks fresh bad))

-- nothing, for want of memory
pub gathers_none : {W : Type 0} (held : W → Option (List ℕ)) (failures : W → ℕ) (p0 p1 : Page W) (w2 : W) (g2 : OutputBuffer) (res : Result (Unit {0}) AllocError) → OnErr res (GoesTo held failures p0 [] p1) → p0.failed ≡ false → p1.failed ≡ false
    → (p1.first.ghost_name ≡ p0.first.ghost_name → p1.first.now ≡ w2) → (p1.gathered.ghost_name ≡ p0.gathered.ghost_name → p1.gathered.now ≡ g2) → GathersNone (writing held failures p0.first.now w2) (gathered_bytes p0.gathered.now) (gathered_bytes g2) (Ok res)
gathers_none held failures p0 p1 w2 g2 (Ok x) short fresh ok back kept = tt
gathers_none held failures p0 p1 w2 g2 (Err e) short fresh ok back kept =
    transport (λ i. Passes held failures [] (gathered_bytes p0.gathered.now) (gathered_bytes (kept short.same_gathered i)) p0.first.now (back short.same_first i)) (short.passes fresh ok)

module _ {C S W E : Type 0} (stands : C → S → Type 0) (makes : S → List Placed → List ℕ → S → Type 0) (follows : S → List Placed → Type 0) (silent : C → Bool) (held : W → Option (List ℕ)) (failures : W → ℕ) (second_held : E → Option (List ℕ)) (second_failures : E → ℕ)
    (nothing : (s : S) → makes s [] [] s) (a b : OutputWriter C W E) where
  abbrev Takes : OutputWriter C W E → OutputWriter C W E → List Placed → (told : List ℕ) → Type 0
  Takes x y items told = WritesAll stands makes follows silent held failures second_held second_failures x y items told

  abbrev Leaves : OutputWriter C W E → OutputWriter C W E → List Placed → (told : List ℕ) → RunStop → Type 0
  Leaves x y items told stop = LeavesWritten stands makes follows silent held failures second_held second_failures x y items told stop

  module _ (same_first : b.first.ghost_name ≡ a.first.ghost_name) (same_second : b.second.ghost_name ≡ a.second.ghost_name) where
    none_first : [] ≡ first_of (silent a.renderer) [] []
    none_first = sym (first_nothing (silent a.renderer))

    none_told : b.second.now ≡ a.second.now → Wrote second_held second_failures a.second.now (second_of (silent a.renderer) []) b.second.now
    none_told same = told_nothing second_held second_failures (silent a.renderer) a.second.now b.second.now same

    -- nothing is made, and the run stops
    left : (told : List ℕ) (stop : RunStop) → LeavesFirst held failures (silent a.renderer) stop (first_of (silent a.renderer) [] told) (gathered_bytes a.gathered) a.first.now b.first.now
        → GotSecond second_held second_failures (silent a.renderer) stop (second_of (silent a.renderer) told) a.second.now b.second.now → Leaves a b [] told stop
    left told stop first second = record { same_first = same_first; same_second = same_second; renders = λ s there comes. (s, [], nothing s, first); tells = second }

    -- what is gathered is written
    pub lets_go : b.renderer ≡ a.renderer → b.second.now ≡ a.second.now → (res : Result (Unit {0}) Unwritten)
        → Gathers held failures [] (gathered_bytes a.gathered) (gathered_bytes b.gathered) a.first.now b.first.now res → LetsGo Takes Leaves a b res
    lets_go kept same (Ok x) p =
        stays stands makes follows silent held failures second_held second_failures a b [] nothing same_first same_second kept (subst (λ (l : List ℕ). Passes held failures l (gathered_bytes a.gathered) (gathered_bytes b.gathered) a.first.now b.first.now) none_first p) (none_told same)
    lets_go kept same (Err e) p = left [] (ByCause WriteFailed) (subst (λ (l : List ℕ). Breaks held failures l (gathered_bytes a.gathered) a.first.now b.first.now) none_first p) (none_told same)

    -- ---- a message is taken

    module _ (quiet : (c : C) (s t : S) (items : List Placed) (text : List ℕ) → silent c ≡ true → stands c s → makes s items text t → text ≡ []) (item : Placed) (same : b.second.now ≡ a.second.now) where
      abbrev One : Result (Unit {0}) Cause → Type 0
      One res = TakesOne Takes Leaves a b item res

      -- what became of what is made of it. g is what is gathered then
      abbrev Gathered : (c : C) (g : List ℕ) → W → Result (Result (Unit {0}) AllocError) Unwritten → Type 0
      Gathered c g w res = (s : S) → stands a.renderer s → follows s (item ∷ []) → (t : S) × (text : List ℕ) × makes s (item ∷ []) text t × GathersOne stands (writing held failures a.first.now w) t c text (gathered_bytes a.gathered) g res

      some_item : item ∷ [] ≢ []
      some_item none = cc

      made : (s t : S) (text : List ℕ) → stands a.renderer s → makes s (item ∷ []) text t → text ≡ first_of (silent a.renderer) text []
      made s t text there makes_it = first_made (silent a.renderer) text (λ is. quiet a.renderer s t (item ∷ []) text is there makes_it)

      pub takes_one : silent b.renderer ≡ silent a.renderer → Gathered b.renderer (gathered_bytes b.gathered) b.first.now (Ok (Ok tt)) → One (Ok tt)
      takes_one quiet_too p = record {
        same_first = same_first;
        same_second = same_second;
        same_silent = quiet_too;
        still = λ none. absurd (some_item none);
        renders = λ s there comes.
            let h = p s there comes in
            (h.0, h.3.0, h.1, h.2, subst (λ (l : List ℕ). Passes held failures l (gathered_bytes a.gathered) (gathered_bytes b.gathered) a.first.now b.first.now) (made s h.0 h.1 there h.2) h.3.1);
        tells = none_told same;
      }

      broken : ((s : S) → stands a.renderer s → follows s (item ∷ []) → (t : S) × (text : List ℕ) × makes s (item ∷ []) text t × Breaks held failures text (gathered_bytes a.gathered) a.first.now b.first.now) → One (Err WriteFailed)
      broken p = record {
        same_first = same_first;
        same_second = same_second;
        renders = λ s there comes.
            let h = p s there comes in
            (h.0, h.1, h.2, subst (λ (l : List ℕ). Breaks held failures l (gathered_bytes a.gathered) a.first.now b.first.now) (made s h.0 h.1 there h.2) h.3);
        tells = none_told same;
      }

      pub stops_one : (c : C) (g : List ℕ) (e : Unwritten) → Gathered c g b.first.now (Err e) → One (Err WriteFailed)
      stops_one c g e p = broken p

      -- memory ran out, and then what is gathered is written, or not
      module _ (g : List ℕ) (w : W) (short : Passes held failures [] (gathered_bytes a.gathered) g a.first.now w) where
        pub runs_short : gathered_bytes b.gathered ≡ [] → Passes held failures [] g (gathered_bytes b.gathered) w b.first.now → One (Err Memory)
        runs_short none q = record {
          same_first = same_first;
          same_second = same_second;
          renders = λ s there comes. (
            s,
            [],
            nothing s,
            transport (λ i. Passes held failures (none_first i) (gathered_bytes a.gathered) (none i) a.first.now b.first.now)
                (passes_nothing held failures [] (gathered_bytes a.gathered) g (gathered_bytes b.gathered) a.first.now w b.first.now short q),
          );
          tells = none_told same;
        }

        pub runs_out : (c : C) (e : AllocError) → Gathered c g w (Ok (Err e)) → Breaks held failures [] g w b.first.now → One (Err WriteFailed)
        runs_out c e p q = broken (λ s there comes.
            let h = p s there comes in
            (h.0, h.1, h.2, breaks_more held failures [] h.1 (gathered_bytes a.gathered) a.first.now b.first.now (breaks_nothing held failures [] (gathered_bytes a.gathered) g a.first.now w b.first.now short q)))

    -- ---- a text is told

    module _ (kept : b.renderer ≡ a.renderer) (same : gathered_bytes b.gathered ≡ gathered_bytes a.gathered) (none : gathered_bytes a.gathered ≡ []) (text : List ℕ) where
      abbrev ToldOne : Result (Unit {0}) Unwritten → Type 0
      ToldOne res = TellsOne Takes Leaves a b text res

      told_all : Passes held failures (first_of (silent a.renderer) [] text) (gathered_bytes a.gathered) (gathered_bytes b.gathered) a.first.now b.first.now
          → Wrote second_held second_failures a.second.now (second_of (silent a.renderer) text) b.second.now → ToldOne (Ok tt)
      told_all passes tells = stays stands makes follows silent held failures second_held second_failures a b text nothing same_first same_second kept passes tells

      -- what is gathered, which is nothing, stays so
      rests : Passes held failures [] (gathered_bytes a.gathered) (gathered_bytes b.gathered) a.first.now a.first.now
      rests = subst (λ (l : List ℕ). Passes held failures [] (gathered_bytes a.gathered) l a.first.now a.first.now) (sym same) (passes_none held failures (gathered_bytes a.gathered) a.first.now)

      -- to the first writer
      pub tells_first : silent a.renderer ≡ true → b.second.now ≡ a.second.now → (res : Result (Unit {0}) Unwritten) → WritesSome held failures text a.first.now b.first.now res → ToldOne res
      tells_first is untold (Ok x) wrote =
          told_all (transport (λ i. Passes held failures (first_of (sym is i) [] text) (gathered_bytes a.gathered) (gathered_bytes b.gathered) a.first.now b.first.now)
          (gathers_some held failures text text (gathered_bytes a.gathered) (gathered_bytes b.gathered) a.first.now b.first.now (Ok x) (ap (λ l. l ++ text) none) (same ∙ none) wrote))
          (transport (λ i. Wrote second_held second_failures a.second.now (second_of (sym is i) text) b.second.now) (told_nothing second_held second_failures true a.second.now b.second.now untold))
      tells_first is untold (Err e) half =
          left text Untold (transport (λ i. LeavesFirst held failures (sym is i) Untold (first_of (sym is i) [] text) (gathered_bytes a.gathered) a.first.now b.first.now)
          (gathers_some held failures text text (gathered_bytes a.gathered) (gathered_bytes b.gathered) a.first.now b.first.now (Err e) (ap (λ l. l ++ text) none) (same ∙ none) half))
          (transport (λ i. GotSecond second_held second_failures (sym is i) Untold (second_of (sym is i) text) a.second.now b.second.now) (told_nothing second_held second_failures true a.second.now b.second.now untold))

      -- to the second
      pub tells_second : silent a.renderer ≡ false → b.first.now ≡ a.first.now → (res : Result (Unit {0}) Unwritten) → WritesSome second_held second_failures text a.second.now b.second.now res → ToldOne res
      tells_second is unmade (Ok x) wrote =
          told_all (transport (λ i. Passes held failures (first_of (sym is i) [] text) (gathered_bytes a.gathered) (gathered_bytes b.gathered) a.first.now (sym unmade i)) rests)
          (transport (λ i. Wrote second_held second_failures a.second.now (second_of (sym is i) text) b.second.now) wrote.0)
      tells_second is unmade (Err e) half =
          left text Untold (transport (λ i. LeavesFirst held failures (sym is i) Untold (first_of (sym is i) [] text) (gathered_bytes a.gathered) a.first.now b.first.now)
          (transport (λ i. Passes held failures [] (gathered_bytes a.gathered) ((same ∙ none) i) a.first.now (sym unmade i)) rests))
          (transport (λ i. GotSecond second_held second_failures (sym is i) Untold (second_of (sym is i) text) a.second.now b.second.now) (half.1, half.2))

  -- ---- the run: the writers at the end are w2 and e2

  module _ (s : S) (there : stands a.renderer s) (none : gathered_bytes a.gathered ≡ []) {w2 : W} {e2 : E} (first : b.first.now ≡ w2) (second : b.second.now ≡ e2) {y : Bool} (silence : silent a.renderer ≡ y) where
    abbrev Done : List Placed → (told : List ℕ) → Type 0
    Done items told = WritesMade makes s y (writing held failures a.first.now w2) (writing second_held second_failures a.second.now e2) items told

    abbrev Left : List Placed → (told : List ℕ) → RunStop → Type 0
    Left items told stop = LeavesMade makes s y (writing held failures a.first.now w2) (writing second_held second_failures a.second.now e2) items told stop

    done_by : gathered_bytes b.gathered ≡ [] → (items : List Placed) (told : List ℕ) → follows s items → Takes a b items told → (h : Done items told) × stands b.renderer h.then
    done_by last items told comes h =
        let r = h.renders s there comes in
        let passes = transport (λ i. Passes held failures (first_of (silence i) r.2 told) (none i) (last i) a.first.now (first i)) r.4 in (
          record {
            then = r.0;
            text = r.2;
            made = r.3;
            first = passes_whole held failures (first_of y r.2 told) [] [] a.first.now w2 refl refl passes;
            still = λ nothing. passes_unwritten held failures (first_of y r.2 told) [] [] a.first.now w2 refl nothing passes;
            second = transport (λ i. Wrote second_held second_failures a.second.now (second_of (silence i) told) (second i)) h.tells;
          },
          r.1,
        )

    left_by : (stop : RunStop) (items : List Placed) (told : List ℕ) → follows s items → Leaves a b items told stop → Left items told stop
    left_by stop items told comes h =
        let r = h.renders s there comes in
        let leaves = transport (λ i. LeavesFirst held failures (silence i) stop (first_of (silence i) r.1 told) (none i) a.first.now (first i)) r.3 in
        record {
          then = r.0;
          text = r.1;
          made = r.2;
          first = got_first held failures a.first.now w2 y stop (first_of y r.1 told) leaves;
          still = got_nothing held failures a.first.now w2 y stop (first_of y r.1 told) leaves;
          second = transport (λ i. GotSecond second_held second_failures (silence i) stop (second_of (silence i) told) a.second.now (second i)) h.tells;
        }

    -- of a source that stands where this one does
    module _ (full : C → Bool) {R : Type 0} (left_in : R → Option (List ℕ)) (calls read_failures : R → ℕ) (packets : R → Option Packets) (settings : Settings) (most : ℕ) (r0 r1 : R) {r2 : R} (source : r1 ≡ r2) where
      abbrev full_of : OutputWriter C W E → Bool
      full_of x = full x.renderer

      abbrev Filled : List Placed → Bool → Type 0
      Filled items filled = FillsBy Takes full_of a items filled

      module _ (comes : (parts : List Part) (items : List Placed) → ArePlaced (packets r0) 1 0 parts items → follows s items) where
        pub gave_up : (x : Bool) → x ≡ y → {F : List Placed → Bool → Type 0} {stop : RunStop} → ((items : List Placed) (filled : Bool) → Filled items filled → F items filled)
            → StopsWithin (taken (reading left_in calls read_failures packets r0 r1)) settings most x Filled (Leaves a b) stop → StopsWithin (taken (reading left_in calls read_failures packets r0 r2)) settings most y F Left stop
        gave_up x checks {F} {stop} fills g =
            transport (λ i. StopsWithin (taken (reading left_in calls read_failures packets r0 (source i))) settings most (checks i) F Left stop)
            (stops_as fills (λ parts items told placed h. left_by stop items told (comes parts items placed) h) g)

      -- it writes no more at its end
      module _ (comes : (items : List Placed) → follows s items) (spent : S → Bool) (fills : (c : C) (t : S) → stands c t → spent t ≡ full c) (x : Bool) (checks : x ≡ y) where
        filled_by : (items : List Placed) (filled : Bool) → Filled items filled → FillsFrom makes s spent items filled
        filled_by items filled (z, told, h, is) = let r = h.renders s there (comes items) in (r.0, r.2, r.3, fills z.renderer r.0 r.1 ∙ is)

        pub ran : {N : (size : ℕ) → Type 0} {end : ExitStatus} → ((size : ℕ) → N size → IsReadFor (reading left_in calls read_failures packets r0 r1) size) → gathered_bytes b.gathered ≡ []
            → Goes (taken (reading left_in calls read_failures packets r0 r1)) settings most x Filled N (Takes a b) end
            → Goes (taken (reading left_in calls read_failures packets r0 r2)) settings most y (FillsFrom makes s spent) (IsReadFor (reading left_in calls read_failures packets r0 r2)) Done end
        ran {N} {end} reads last g =
            transport (λ i. Goes (taken (reading left_in calls read_failures packets r0 (source i))) settings most (checks i) (FillsFrom makes s spent) (IsReadFor (reading left_in calls read_failures packets r0 (source i))) Done end)
            (ends_as filled_by reads (λ parts items told placed h. (done_by last items told (comes items) h).0) g)

        pub stopped : {stop : RunStop} → StopsWithin (taken (reading left_in calls read_failures packets r0 r1)) settings most x Filled (Leaves a b) stop
            → StopsWithin (taken (reading left_in calls read_failures packets r0 r2)) settings most y (FillsFrom makes s spent) Left stop
        stopped g = gave_up (λ parts items placed. comes items) x checks filled_by g

  -- it writes more at its end, and wants all messages: w2 and e2 are the writers before that, w3 and
  -- e3 after it
  module _ (full : C → Bool) (s : S) (there : stands a.renderer s) (none : gathered_bytes a.gathered ≡ []) {w2 : W} {e2 : E} (first : b.first.now ≡ w2) (second : b.second.now ≡ e2) (loud : silent a.renderer ≡ false) (wants : (c : C) → full c ≡ false) where
    pub to_end : {R : Type 0} (left_in : R → Option (List ℕ)) (calls read_failures : R → ℕ) (packets : R → Option Packets) (settings : Settings) (most : ℕ) (r0 r1 : R) {r2 : R} (source : r1 ≡ r2)
        (comes : (parts : List Part) (items : List Placed) → ArePlaced (packets r0) 1 0 parts items → follows s items) (ends : S → (text note : List ℕ) → Type 0) → gathered_bytes b.gathered ≡ [] → (w3 : W) (e3 : E) (res : Result (String Global) Cause) (due end : ExitStatus)
        → ((t : S) → stands b.renderer t → WritesLast ends t (writing held failures w2 w3) res) → EndsSo (writing second_held second_failures e2 e3) due end res → {N : (size : ℕ) → Type 0} → ((size : ℕ) → N size → IsReadFor (reading left_in calls read_failures packets r0 r1) size)
        → Goes (taken (reading left_in calls read_failures packets r0 r1)) settings most false (FillsBy Takes (λ x. full x.renderer) a) N (Takes a b) due
        → EndsAfterAll makes s ends (reading left_in calls read_failures packets r0 r2) (writing held failures a.first.now w3) (writing second_held second_failures a.second.now e3) settings most end
    to_end left_in calls read_failures packets settings most r0 r1 source comes ends last w3 e3 res due end wrote told reads g =
        let all : (l : List Placed) (b : Bool) → FillsBy Takes (λ x. full x.renderer) a l b → WantsAll l b = λ l b h. sym h.3 ∙ wants h.0.renderer in
        let both = through_by all g in
        let done = goes_as all (λ parts items said placed h. let d = done_by s there none first second loud last items said (comes parts items placed) h in (d.0, wrote d.0.then d.1)) both.0 in
        let through = subst (λ (r : _). (g : GoesThrough (taken (reading left_in calls read_failures packets r0 r)) settings most false WantsAll
        (λ items said. (h : WritesMade makes s false (writing held failures a.first.now w2) (writing second_held second_failures a.second.now e2) items said) × WritesLast ends h.then (writing held failures w2 w3) res) due)
        × ReadsToSee settings g.fault g.through.parts g.through.rest (IsReadFor (reading left_in calls read_failures packets r0 r))) source
        (done, λ faultless. reads_as (WantToSee settings.limits both.0.through.parts both.0.through.rest) reads (both.1 faultless)) in
        record { due = due; middle = w2; before = e2; last = res; through = through.0; reads = through.1; ends_so = told }
