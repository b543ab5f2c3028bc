-- The laws of the visitors, and of what a writer or a window lets through of more. They are here,
-- and not in proofs/, because the trait's law names them.
use Rattle.std.proofs.Common.{◌≡◌, ℕ, ◌+◌, Bool, true, false, List, [], ◌++◌, length, Option, refl, sym, ap, ◌∙◌, subst, arith, length-append, zero, suc, ◌-◌, ◌∷◌, None, Some, option_map, take, drop, length-drop}
use Rattle.std.specs.Io.KnownBytes.{Appends}
use Rattle.std.proofs.KnownBytes.{Appends-nil, Appends-trans}
use Rattle.std.proofs.Math.Path.{transport}
use Rattle.std.proofs.Math.Seq.{drop-nil, take-append-add, take-nil}
use Rattle.dbus_device.specs.Device.{one_more, Wrote, Stopped}
use Rattle.cli_run.specs.Told.{GotSecond, second_of, first_of}
use Rattle.cli_run.specs.declared.visitor.RunStop.{RunStop}
use Rattle.cli_run.specs.declared.visitor.RunStop.TheVariants.{Cause as ByCause, Untold}
use Rattle.std.specs.List.{concat}
use Rattle.std.proofs.lemmas.List.Folds.{concat-append}
use Rattle.dbus_names.specs.NameStates.{NameState}
use Rattle.cli_options.specs.declared.selection.Selection.{Selection}
use Rattle.cli_options.specs.declared.window.Window.{Window}
use Rattle.cli_run.specs.Learning.{known_after, known_after_all}
use Rattle.cli_run.specs.Output.{after, at_most, written}
use Rattle.cli_run.specs.Inputs.{Placed}
use Rattle.cli_run.specs.Visiting.{AddsUp}
use Rattle.cli_report.specs.Gathering.{Leaves as LeavesBy, Passes, gathered_bytes}
use Rattle.cli_report.specs.PageLaws.{breaks_after, none_both, passes_both, passes_none}
use Rattle.cli_report.specs.declared.ending.Cause.{Cause}
use Rattle.cli_report.specs.declared.ending.Cause.TheVariants.{Memory, ReadFailed, WriteFailed, TooManyReads}
use Rattle.cli_run.specs.OutputWriting.{LeavesFirst, LeavesWritten, WritesAll}
use Rattle.cli_run.specs.declared.output_writer.OutputWriter.{OutputWriter}

-- ---- what a writer got, and then more

-- what the second writer gets of more
pub second_both : (is_check : Bool) (told text : List ℕ) → second_of is_check told ++ second_of is_check text ≡ second_of is_check (told ++ text)
second_both true told text = refl
second_both false told text = refl

pub second_nothing : (is_check : Bool) → second_of is_check [] ≡ []
second_nothing true = refl
second_nothing false = refl

module _ {W : Type 0} (held : W → Option (List ℕ)) (failures : W → ℕ) where
  pub wrote_nothing : (w : W) → Wrote held failures w [] w
  wrote_nothing w = record { appended = Appends-nil (held w); failed = refl }

  pub wrote_both : (a b : List ℕ) (w0 w1 w2 : W) → Wrote held failures w0 a w1 → Wrote held failures w1 b w2 → Wrote held failures w0 (a ++ b) w2
  wrote_both a b w0 w1 w2 p q = record { appended = Appends-trans _ _ _ _ _ p.appended q.appended; failed = q.failed ∙ p.failed }

  pub wrote_stopped : (a b : List ℕ) (n : ℕ) (w0 w1 w2 : W) → Wrote held failures w0 a w1 → Stopped held failures w1 b n w2 → Stopped held failures w0 (a ++ b) (length a + n) w2
  wrote_stopped a b n w0 w1 w2 p q = record {
    within = omega (arith, q.within, length-append a b);
    appended = subst (λ l. Appends (held w0) (held w2) l) (sym (take-append-add a b n)) (Appends-trans _ _ _ _ _ p.appended q.appended);
    failed = q.failed ∙ ap one_more p.failed;
  }

  -- nothing is told
  pub told_nothing : (is_check : Bool) (w0 w1 : W) → w1 ≡ w0 → Wrote held failures w0 (second_of is_check []) w1
  told_nothing is_check w0 w1 same = transport (λ i. Wrote held failures w0 (sym (second_nothing is_check) i) (sym same i)) (wrote_nothing w0)

  -- as far as a stop lets it come
  pub second_after : (is_check : Bool) (stop : RunStop) (a b : List ℕ) (w0 w1 w2 : W) → Wrote held failures w0 a w1 → GotSecond held failures is_check stop b w1 w2
      → GotSecond held failures is_check stop (a ++ b) w0 w2
  second_after is_check (ByCause cause) a b w0 w1 w2 p q = wrote_both a b w0 w1 w2 p q
  second_after true Untold a b w0 w1 w2 p q = wrote_both a b w0 w1 w2 p q
  second_after false Untold a b w0 w1 w2 p q = (length a + q.0, wrote_stopped a b q.0 w0 w1 w2 p q.1)

-- ---- what a window lets through of texts that follow others

drop_both : {A : Type 0} (n : ℕ) (a b : List A) → drop n (a ++ b) ≡ drop n a ++ drop (n - length a) b
drop_both zero a b = let none : 0 - length a ≡ 0 = omega arith in ap (λ m. a ++ drop m b) (sym none)
drop_both (suc n) [] b = let same : suc n ≡ suc n - 0 = omega arith in ap (λ m. drop m b) same
drop_both (suc n) (x ∷ a) b = let less : n - length a ≡ suc n - suc (length a) = omega arith in drop_both n a b ∙ ap (λ m. drop n a ++ drop m b) less

take_both : {A : Type 0} (n : ℕ) (a b : List A) → take n (a ++ b) ≡ take n a ++ take (n - length a) b
take_both zero a b = let none : 0 - length a ≡ 0 = omega arith in ap (λ m. take m b) (sym none)
take_both (suc n) [] b = let same : suc n ≡ suc n - 0 = omega arith in ap (λ m. take m b) same
take_both (suc n) (x ∷ a) b = let less : n - length a ≡ suc n - suc (length a) = omega arith in ap (λ l. x ∷ l) (take_both n a b ∙ ap (λ m. take n a ++ take m b) less)

at_most_both : {A : Type 0} (limit : Option ℕ) (a b : List A) → at_most limit (a ++ b) ≡ at_most limit a ++ at_most (option_map (λ n. n - length a) limit) b
at_most_both None a b = refl
at_most_both (Some n) a b = take_both n a b

pub written_both : (window : Window) (a b : List (List ℕ)) → written window (a ++ b) ≡ written window a ++ written (after window (length a)) b
unfolding written
written_both window a b =
    let skip = window.skip in
    let limit = window.limit in
    let rest = drop (skip - length a) b in
    let few : length (drop skip a) ≡ length a - skip = length-drop skip a in
    ap (λ l. concat (at_most limit l)) (drop_both skip a b) ∙ (ap concat (at_most_both limit (drop skip a) rest)
    ∙ (concat-append (at_most limit (drop skip a)) (at_most (option_map (λ n. n - length (drop skip a)) limit) rest)
    ∙ ap (λ m. concat (at_most limit (drop skip a)) ++ concat (at_most (option_map (λ n. n - m) limit) rest)) few))

less_both : (limit : Option ℕ) (skip m n : ℕ) → option_map (λ l. l - (n - (skip - m))) (option_map (λ l. l - (m - skip)) limit) ≡ option_map (λ l. l - (m + n - skip)) limit
less_both None skip m n = refl
less_both (Some l) skip m n = let less : l - (m - skip) - (n - (skip - m)) ≡ l - (m + n - skip) = omega arith in ap Some less

pub after_both : (window : Window) (m n : ℕ) → after (after window m) n ≡ after window (m + n)
after_both window m n =
    let skip : window.skip - m - n ≡ window.skip - (m + n) = omega arith in
    λ i. record { skip = skip i; limit = less_both window.limit window.skip m n i; checks_rest = window.checks_rest }

same_limit : (limit : Option ℕ) (skip : ℕ) → option_map (λ l. l - (0 - skip)) limit ≡ limit
same_limit None skip = refl
same_limit (Some l) skip = let same : l - (0 - skip) ≡ l = omega arith in ap Some same

pub after_none : (window : Window) → after window 0 ≡ window
after_none window = let skip : window.skip - 0 ≡ window.skip = omega arith in λ i. record { skip = skip i; limit = same_limit window.limit window.skip i; checks_rest = window.checks_rest }

pub at_most_none : {A : Type 0} (limit : Option ℕ) → ◌≡◌ {A = List A} (at_most limit []) []
at_most_none None = refl
at_most_none (Some n) = take-nil n

pub written_none : (window : Window) → written window [] ≡ []
unfolding written
written_none window = ap (λ l. concat (at_most window.limit l)) (drop-nil window.skip) ∙ ap concat (at_most_none window.limit)

-- where a window stands after texts, it goes on with more
pub written_more : (window now : Window) (a b : List (List ℕ)) → now ≡ after window (length a) → written window a ++ written now b ≡ written window (a ++ b)
written_more window now a b e = ap (λ w. written window a ++ written w b) e ∙ sym (written_both window a b)

pub after_more : (window now : Window) (a b : List (List ℕ)) → now ≡ after window (length a) → after now (length b) ≡ after window (length (a ++ b))
after_more window now a b e = ap (λ w. after w (length b)) e ∙ (after_both window (length a) (length b) ∙ ap (λ n. after window n) (sym (length-append a b)))

-- ---- what is known after messages, and after others

pub known_both : (selection : Option Selection) (os : NameState) (s t : List Placed) → known_after_all selection (known_after_all selection os s) t ≡ known_after_all selection os (s ++ t)
known_both selection os [] t = refl
known_both selection os (m ∷ s) t = known_both selection (known_after selection os m.item.message) s t

-- ---- what writes an output

-- what the first writer gets of more
first_both : (is_check : Bool) (out told more text : List ℕ) → first_of is_check out told ++ first_of is_check more text ≡ first_of is_check (out ++ more) (told ++ text)
first_both true out told more text = refl
first_both false out told more text = refl

pub first_nothing : (is_check : Bool) → first_of is_check [] [] ≡ []
first_nothing true = refl
first_nothing false = refl

module _ {W : Type 0} (held : W → Option (List ℕ)) (failures : W → ℕ) where
  -- bytes that went through, and then others as far as a cause lets them come
  leaves_both : (cause : Cause) (a b g0 g1 : List ℕ) (w0 w1 w2 : W) → Passes held failures a g0 g1 w0 w1 → LeavesBy held failures cause b g1 [] w1 w2
      → LeavesBy held failures cause (a ++ b) g0 [] w0 w2
  leaves_both WriteFailed a b g0 g1 w0 w1 w2 p q = breaks_after held failures a b g0 g1 w0 w1 w2 p q
  leaves_both cause a b g0 g1 w0 w1 w2 p q = passes_both held failures a b g0 g1 [] w0 w1 w2 p q

  pub first_after : (is_check : Bool) (stop : RunStop) (a b g0 g1 : List ℕ) (w0 w1 w2 : W) → Passes held failures a g0 g1 w0 w1 → LeavesFirst held failures is_check stop b g1 w1 w2
      → LeavesFirst held failures is_check stop (a ++ b) g0 w0 w2
  first_after is_check (ByCause cause) a b g0 g1 w0 w1 w2 p q = leaves_both cause a b g0 g1 w0 w1 w2 p q
  first_after true Untold a b g0 g1 w0 w1 w2 p q = breaks_after held failures a b g0 g1 w0 w1 w2 p q
  first_after false Untold a b g0 g1 w0 w1 w2 p q = passes_both held failures a b g0 g1 [] w0 w1 w2 p q

module _ {C S W E : Type 0} (stands : C → S → Type 0) (makes : S → List Placed → List ℕ → S → Type 0) (follows : S → List Placed → Type 0) (silent : C → Bool) (held : W → Option (List ℕ)) (failures : W → ℕ) (second_held : E → Option (List ℕ)) (second_failures : E → ℕ) where
  abbrev Takes : OutputWriter C W E → OutputWriter C W E → List Placed → (told : List ℕ) → Type 0
  Takes a b s p = WritesAll stands makes follows silent held failures second_held second_failures a b s p

  abbrev Leaves : OutputWriter C W E → OutputWriter C W E → List Placed → (told : List ℕ) → RunStop → Type 0
  Leaves a b s p stop = LeavesWritten stands makes follows silent held failures second_held second_failures a b s p stop

  -- what a writer holds back may go out, and it may tell a text
  pub stays : (a b : OutputWriter C W E) (told : List ℕ) → ((s : S) → makes s [] [] s) → b.first.ghost_name ≡ a.first.ghost_name → b.second.ghost_name ≡ a.second.ghost_name → b.renderer ≡ a.renderer
      → Passes held failures (first_of (silent a.renderer) [] told) (gathered_bytes a.gathered) (gathered_bytes b.gathered) a.first.now b.first.now
      → Wrote second_held second_failures a.second.now (second_of (silent a.renderer) told) b.second.now → Takes a b [] told
  stays a b told nothing first second same passes tells = record {
    same_first = first;
    same_second = second;
    same_silent = ap silent same;
    still = λ none. same;
    renders = λ s there comes. (s, subst (λ (c : C). stands c s) (sym same) there, [], nothing s, passes);
    tells = tells;
  }

  module _ (full : C → Bool) (nothing : (s : S) → makes s [] [] s) (joined : (s t u : S) (a b : List Placed) (p q : List ℕ) → makes s a p t → makes t b q u → makes s (a ++ b) (p ++ q) u)
      (splits : (s : S) (a b : List Placed) → follows s (a ++ b) → follows s a × ((t : S) (p : List ℕ) → makes s a p t → follows t b)) where
    both : (a b c : OutputWriter C W E) (s t : List Placed) (p q : List ℕ) → Takes a b s p → Takes b c t q → Takes a c (s ++ t) (p ++ q)
    both a b c s t p q h k = record {
      same_first = k.same_first ∙ h.same_first;
      same_second = k.same_second ∙ h.same_second;
      same_silent = k.same_silent ∙ h.same_silent;
      still = λ none. let each = none_both s t none in k.still each.1 ∙ h.still each.0;
      renders = λ x there comes.
          let apart = splits x s t comes in
          let one = h.renders x there apart.0 in
          let more = k.renders one.0 one.1 (apart.1 one.0 one.2 one.3) in
          let passes = subst (λ (x : Bool). Passes held failures (first_of x more.2 q) (gathered_bytes b.gathered) (gathered_bytes c.gathered) b.first.now c.first.now) h.same_silent more.4 in (
            more.0,
            more.1,
            one.2 ++ more.2,
            joined x one.0 more.0 s t one.2 more.2 one.3 more.3,
            subst (λ (l : List ℕ). Passes held failures l (gathered_bytes a.gathered) (gathered_bytes c.gathered) a.first.now c.first.now) (first_both (silent a.renderer) one.2 p more.2 q)
                (passes_both held failures _ _ (gathered_bytes a.gathered) (gathered_bytes b.gathered) (gathered_bytes c.gathered) a.first.now b.first.now c.first.now one.4 passes),
          );
      tells = subst (λ (l : List ℕ). Wrote second_held second_failures a.second.now l c.second.now) (second_both (silent a.renderer) p q)
          (wrote_both second_held second_failures _ _ a.second.now b.second.now c.second.now h.tells (subst (λ (x : Bool). Wrote second_held second_failures b.second.now (second_of x q) c.second.now) h.same_silent k.tells));
    }

    left_after : (a b c : OutputWriter C W E) (s t : List Placed) (p q : List ℕ) (stop : RunStop) → Takes a b s p → Leaves b c t q stop → Leaves a c (s ++ t) (p ++ q) stop
    left_after a b c s t p q stop h k = record {
      same_first = k.same_first ∙ h.same_first;
      same_second = k.same_second ∙ h.same_second;
      renders = λ x there comes.
          let apart = splits x s t comes in
          let one = h.renders x there apart.0 in
          let more = k.renders one.0 one.1 (apart.1 one.0 one.2 one.3) in
          let leaves = subst (λ (x : Bool). LeavesFirst held failures x stop (first_of x more.1 q) (gathered_bytes b.gathered) b.first.now c.first.now) h.same_silent more.3 in (
            more.0,
            one.2 ++ more.1,
            joined x one.0 more.0 s t one.2 more.1 one.3 more.2,
            subst (λ (l : List ℕ). LeavesFirst held failures (silent a.renderer) stop l (gathered_bytes a.gathered) a.first.now c.first.now) (first_both (silent a.renderer) one.2 p more.1 q)
                (first_after held failures (silent a.renderer) stop _ _ (gathered_bytes a.gathered) (gathered_bytes b.gathered) a.first.now b.first.now c.first.now one.4 leaves),
          );
      tells = subst (λ (l : List ℕ). GotSecond second_held second_failures (silent a.renderer) stop l a.second.now c.second.now) (second_both (silent a.renderer) p q)
          (second_after second_held second_failures (silent a.renderer) stop _ _ a.second.now b.second.now c.second.now h.tells
          (subst (λ (x : Bool). GotSecond second_held second_failures x stop (second_of x q) b.second.now c.second.now) h.same_silent k.tells));
    }

    -- nothing is held back
    rests_by : (a b : OutputWriter C W E) (s : List Placed) (p : List ℕ) → Takes a b s p → gathered_bytes b.gathered ≡ [] → (stop : RunStop)
        → ((bytes : List ℕ) → Passes held failures bytes (gathered_bytes a.gathered) [] a.first.now b.first.now → LeavesFirst held failures (silent a.renderer) stop bytes (gathered_bytes a.gathered) a.first.now b.first.now)
        → GotSecond second_held second_failures (silent a.renderer) stop (second_of (silent a.renderer) p) a.second.now b.second.now → Leaves a b s p stop
    rests_by a b s p h none stop first second = record {
      same_first = h.same_first;
      same_second = h.same_second;
      renders = λ x there comes.
          let r = h.renders x there comes in
          (r.0, r.2, r.3, first (first_of (silent a.renderer) r.2 p) (subst (λ (g : List ℕ). Passes held failures (first_of (silent a.renderer) r.2 p) (gathered_bytes a.gathered) g a.first.now b.first.now) none r.4));
      tells = second;
    }

    pub output_adds_up : AddsUp Takes Leaves (λ a. gathered_bytes a.gathered ≡ []) (λ a. full a.renderer)
    output_adds_up = record {
      still = λ a b p h. ap full (h.still refl);
      nothing = λ a.
          let none = sym (first_nothing (silent a.renderer)) in
          stays a a [] nothing refl refl refl (subst (λ (l : List ℕ). Passes held failures l (gathered_bytes a.gathered) (gathered_bytes a.gathered) a.first.now a.first.now) none (passes_none held failures (gathered_bytes a.gathered) a.first.now))
          (told_nothing second_held second_failures (silent a.renderer) a.second.now a.second.now refl);
      joins = both;
      leaves_after = left_after;
      rests = λ a b s p h none. (
        rests_by a b s p h none (ByCause Memory) (λ bytes q. q) h.tells,
        rests_by a b s p h none (ByCause ReadFailed) (λ bytes q. q) h.tells,
        rests_by a b s p h none (ByCause TooManyReads) (λ bytes q. q) h.tells,
      );
    }
