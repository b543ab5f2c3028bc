-- Texts that go one after the other.
-- The proofs of the laws that a `Draft` owes, of a page.
use Rattle.std.proofs.Common.{◌≡◌, ℕ, List, [], ◌∷◌, ◌++◌, Bool, true, false, Option, refl, sym, ap, ◌∙◌, subst, append_assoc, append-nil}
use Rattle.std.proofs.KnownBytes.{Appends-nil, Appends-trans}
use Rattle.std.proofs.lemmas.Bool.{false≢true}
use Rattle.dbus_device.specs.Device.{one_more}
use Rattle.cli_report.specs.Gathering.{Passes, Breaks, gathered_bytes, Goes}
use Rattle.cli_report.specs.declared.page.Page.{Page}

-- of nothing both parts are nothing
pub none_both : {A : Type 0} (a b : List A) → a ++ b ≡ [] → (a ≡ []) × (b ≡ [])
none_both [] b none = (refl, none)
none_both (x ∷ a) b none = absurd cc

module _ {W : Type 0} (held : W → Option (List ℕ)) (failures : W → ℕ) where
  -- nothing is written, and the bytes are gathered
  pub passes_kept : (bytes g0 g1 : List ℕ) (old : W) → g1 ≡ g0 ++ bytes → Passes held failures bytes g0 g1 old old
  passes_kept bytes g0 g1 old e = record { written = []; appended = Appends-nil (held old); joined = sym e; failed = refl; unwritten = λ none. refl }

  pub passes_none : (g : List ℕ) (old : W) → Passes held failures [] g g old old
  passes_none g old = passes_kept [] g g old (sym (append-nil g))

  -- what there is to write at first is what is written of it, and what there is then
  further : (a b g0 g1 : List ℕ) (w0 w1 : W) (p : Passes held failures a g0 g1 w0 w1) → g0 ++ (a ++ b) ≡ p.written ++ (g1 ++ b)
  further a b g0 g1 w0 w1 p = sym (append_assoc g0 a b) ∙ (ap (λ l. l ++ b) p.joined ∙ append_assoc p.written g1 b)

  -- one after the other
  pub passes_both : (a b g0 g1 g2 : List ℕ) (w0 w1 w2 : W) → Passes held failures a g0 g1 w0 w1 → Passes held failures b g1 g2 w1 w2 → Passes held failures (a ++ b) g0 g2 w0 w2
  passes_both a b g0 g1 g2 w0 w1 w2 p q = record {
    written = p.written ++ q.written;
    appended = Appends-trans _ _ _ _ _ p.appended q.appended;
    joined = further a b g0 g1 w0 w1 p ∙ (ap (λ l. p.written ++ l) q.joined ∙ sym (append_assoc p.written q.written g2));
    failed = q.failed ∙ p.failed;
    unwritten = λ none. let each = none_both p.written q.written none in q.unwritten each.1 ∙ p.unwritten each.0;
  }

  pub breaks_after : (a b g0 g1 : List ℕ) (w0 w1 w2 : W) → Passes held failures a g0 g1 w0 w1 → Breaks held failures b g1 w1 w2 → Breaks held failures (a ++ b) g0 w0 w2
  breaks_after a b g0 g1 w0 w1 w2 p q = record {
    written = p.written ++ q.written;
    appended = Appends-trans _ _ _ _ _ p.appended q.appended;
    front = (q.front.0, further a b g0 g1 w0 w1 p ∙ (ap (λ l. p.written ++ l) q.front.1 ∙ sym (append_assoc p.written q.written q.front.0)));
    some = λ none. q.some (none_both p.written (g1 ++ b) (sym (further a b g0 g1 w0 w1 p) ∙ none)).1;
    failed = q.failed ∙ ap one_more p.failed;
  }

  pub nothing : (a : Page W) → Goes held failures a [] a
  nothing a = record {
    same_gathered = refl;
    same_first = refl;
    passes = λ _ _. passes_none (gathered_bytes a.gathered.now) a.first.now;
    breaks = λ h k. absurd (false≢true (sym h ∙ k));
    stays = λ h. (h, refl);
  }

  -- a text that was not written, and more after it
  pub breaks_more : (s t g0 : List ℕ) (old new : W) → Breaks held failures s g0 old new → Breaks held failures (s ++ t) g0 old new
  breaks_more s t g0 old new b = record {
    written = b.written;
    appended = b.appended;
    front = (b.front.0 ++ t, sym (append_assoc g0 s t) ∙ (ap (λ l. l ++ t) b.front.1 ∙ append_assoc b.written b.front.0 t));
    some = λ none. b.some (none_both (g0 ++ s) t (append_assoc g0 s t ∙ none)).0;
    failed = b.failed;
  }

  passes_then : {a b c : Page W} {s t : List ℕ} (failed : Bool) → b.failed ≡ failed → Goes held failures a s b → Goes held failures b t c → a.failed ≡ false → c.failed ≡ false
      → Passes held failures (s ++ t) (gathered_bytes a.gathered.now) (gathered_bytes c.gathered.now) a.first.now c.first.now
  passes_then {a} {b} {c} {s} {t} false e p q h k =
      passes_both s t (gathered_bytes a.gathered.now) (gathered_bytes b.gathered.now) (gathered_bytes c.gathered.now) a.first.now b.first.now c.first.now (p.passes h e) (q.passes e k)
  passes_then {a} {b} {c} {s} {t} true e p q h k = absurd (false≢true (sym k ∙ (q.stays e).0))

  breaks_then : {a b c : Page W} {s t : List ℕ} (failed : Bool) → b.failed ≡ failed → Goes held failures a s b → Goes held failures b t c → a.failed ≡ false → c.failed ≡ true
      → Breaks held failures (s ++ t) (gathered_bytes a.gathered.now) a.first.now c.first.now
  breaks_then {a} {b} {c} {s} {t} false e p q h k =
      breaks_after s t (gathered_bytes a.gathered.now) (gathered_bytes b.gathered.now) a.first.now b.first.now c.first.now (p.passes h e) (q.breaks e k)
  breaks_then {a} {b} {c} {s} {t} true e p q h k =
      subst (λ (w : W). Breaks held failures (s ++ t) (gathered_bytes a.gathered.now) a.first.now w) (sym (q.stays e).1) (breaks_more s t (gathered_bytes a.gathered.now) a.first.now b.first.now (p.breaks h e))

  pub joins : (a b c : Page W) (s t : List ℕ) → Goes held failures a s b → Goes held failures b t c → Goes held failures a (s ++ t) c
  joins a b c s t p q = record {
    same_gathered = q.same_gathered ∙ p.same_gathered;
    same_first = q.same_first ∙ p.same_first;
    passes = λ h k. passes_then b.failed refl p q h k;
    breaks = λ h k. breaks_then b.failed refl p q h k;
    stays = λ h. ((q.stays (p.stays h).0).0, (q.stays (p.stays h).0).1 ∙ (p.stays h).1);
  }
