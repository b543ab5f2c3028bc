-- The steps in which bytes are gathered and written.
use Rattle.std.proofs.Common.{◌≡◌, ℕ, List, [], ◌++◌, Option, Result, Ok, Err, take, drop, sym, ap, ◌∙◌, subst, append-nil, take-append-drop}
use Rattle.std.specs.Io.KnownBytes.{Appends}
use Rattle.dbus_device.specs.Device.{Wrote}
use Rattle.cli_report.specs.Gathering.{Breaks, Gathers, Passes, WritesSome}
use Rattle.cli_report.specs.declared.gathering.Unwritten.{Unwritten}
use Rattle.cli_report.specs.PageLaws.{breaks_after, none_both, passes_both}

module _ {W : Type 0} (held : W → Option (List ℕ)) (failures : W → ℕ) where
  -- bytes and then nothing
  pub passes_nothing : (a g0 g1 g2 : List ℕ) (w0 w1 w2 : W) → Passes held failures a g0 g1 w0 w1 → Passes held failures [] g1 g2 w1 w2 → Passes held failures a g0 g2 w0 w2
  passes_nothing a g0 g1 g2 w0 w1 w2 p q = subst (λ l. Passes held failures l g0 g2 w0 w2) (append-nil a) (passes_both held failures a [] g0 g1 g2 w0 w1 w2 p q)

  pub breaks_nothing : (a g0 g1 : List ℕ) (w0 w1 w2 : W) → Passes held failures a g0 g1 w0 w1 → Breaks held failures [] g1 w1 w2 → Breaks held failures a g0 w0 w2
  breaks_nothing a g0 g1 w0 w1 w2 p q = subst (λ l. Breaks held failures l g0 w0 w2) (append-nil a) (breaks_after held failures a [] g0 g1 w0 w1 w2 p q)

  -- all that is gathered and these bytes are written at once, and nothing is gathered then
  pub gathers_some : (all bytes g0 g1 : List ℕ) (old new : W) (res : Result (Unit {0}) Unwritten) → g0 ++ bytes ≡ all → g1 ≡ [] → WritesSome held failures all old new res → Gathers held failures bytes g0 g1 old new res
  gathers_some all bytes g0 g1 old new (Ok x) e none w = record {
    written = all;
    appended = w.0.appended;
    joined = e ∙ (sym (append-nil all) ∙ ap (λ l. all ++ l) (sym none));
    failed = w.0.failed;
    unwritten = w.1;
  }
  gathers_some all bytes g0 g1 old new (Err x) e none s = record {
    written = take s.1 all;
    appended = s.2.appended;
    front = (drop s.1 all, e ∙ sym (take-append-drop s.1 all));
    some = λ nothing. s.0 (sym e ∙ nothing);
    failed = s.2.failed;
  }

  -- what is gathered is written, and then these bytes are
  pub gathers_then : (bytes g0 g1 : List ℕ) (w0 w1 w2 : W) (res : Result (Unit {0}) Unwritten) → g1 ≡ [] → Passes held failures [] g0 g1 w0 w1 → WritesSome held failures bytes w1 w2 res → Gathers held failures bytes g0 g1 w0 w2 res
  gathers_then bytes g0 g1 w0 w1 w2 (Ok x) e p w = passes_both held failures [] bytes g0 g1 g1 w0 w1 w2 p (gathers_some bytes bytes g1 g1 w1 w2 (Ok x) (ap (λ l. l ++ bytes) e) e w)
  gathers_then bytes g0 g1 w0 w1 w2 (Err x) e p s = breaks_after held failures [] bytes g0 g1 w0 w1 w2 p (gathers_some bytes bytes g1 g1 w1 w2 (Err x) (ap (λ l. l ++ bytes) e) e s)

  -- where nothing was gathered before and nothing is after, all was written
  pub passes_whole : (bytes g0 g1 : List ℕ) (old new : W) → g0 ≡ [] → g1 ≡ [] → Passes held failures bytes g0 g1 old new → Wrote held failures old bytes new
  passes_whole bytes g0 g1 old new e f p =
      let all : bytes ≡ p.written = ap (λ l. l ++ bytes) (sym e) ∙ (p.joined ∙ (ap (λ l. p.written ++ l) f ∙ append-nil p.written)) in
      record { appended = subst (λ l. Appends (held old) (held new) l) (sym all) p.appended; failed = p.failed }

  -- of nothing, no write was made
  pub passes_unwritten : (bytes g0 g1 : List ℕ) (old new : W) → g0 ≡ [] → bytes ≡ [] → Passes held failures bytes g0 g1 old new → new ≡ old
  passes_unwritten bytes g0 g1 old new e none p = p.unwritten (none_both p.written g1 (sym p.joined ∙ (λ i. e i ++ none i))).0
