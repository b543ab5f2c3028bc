-- The laws of what makes lines of messages. They are here, and not in proofs/, because the trait's
-- laws name them.
use Rattle.std.proofs.Common.{◌≡◌, ℕ, true, false, List, [], ◌∷◌, ◌++◌, length, refl, sym, ap, ◌∙◌, subst, append-nil, append_assoc}
use Rattle.std.proofs.Math.Path.{transport}
use Rattle.std.proofs.lemmas.Bool.{false≢true}
use Rattle.dbus_call_lines.specs.Listing.{Numbered, nth}
use Rattle.dbus_names.specs.NameStates.{NameState}
use Rattle.cli_options.specs.declared.wanted_lines.WantedLines.{WantedLines}
use Rattle.cli_run.specs.CallLaws.{after_both, names_both}
use Rattle.cli_run.specs.CallListing.{number_and_time, numbered}
use Rattle.cli_run.specs.Inputs.{Placed}
use Rattle.cli_run.specs.LineListing.{AreLinesOf, LinesState, MakesLines, StandsAt, lines_after}
use Rattle.cli_run.specs.LineNames.{names_after, names_after_all}
use Rattle.cli_run.specs.Output.{written}
use Rattle.cli_run.specs.VisitorLaws.{after_more, after_none, written_more, written_none}
use Rattle.cli_run.specs.declared.line_listing.LineRenderer.{LineRenderer}

-- messages after others
lines_of_both : (wanted : WantedLines) (os : NameState) (before : List Numbered) (s t : List Placed) (a b : List (List ℕ)) → AreLinesOf wanted os before s a
    → AreLinesOf wanted (names_after_all os s) (before ++ numbered s) t b → AreLinesOf wanted os before (s ++ t) (a ++ b)
lines_of_both wanted os before [] t a b p q = transport (λ i. AreLinesOf wanted os (append-nil before i) t (sym p i ++ b)) q
lines_of_both wanted os before (m ∷ s) t a b p q =
    let x : Numbered = nth (number_and_time m.place) m.item.message in
    let os1 = names_after os m.item.message in
    let rest = lines_of_both wanted os1 (before ++ x ∷ []) s t p.1 b p.3 (subst (λ (l : List Numbered). AreLinesOf wanted (names_after_all os1 s) l t b) (sym (append_assoc before (x ∷ []) (numbered s))) q) in
    (p.0, p.1 ++ b, p.2, rest, ap (λ l. l ++ b) p.4 ∙ append_assoc p.0 p.1 b)

pub nothing : (s : LinesState) → MakesLines s [] [] s
nothing s = record {
  lines = [];
  are = refl;
  text_is = sym (written_none s.window);
  then = λ i. record { wanted = s.wanted; window = sym (after_none s.window) i; names = s.names; before = sym (append-nil s.before) i };
}

-- from where the first lines leave off
module _ (s : LinesState) (a b : List Placed) (p q : List ℕ) (u : LinesState) (h : List (List ℕ)) (are : AreLinesOf s.wanted s.names s.before a h) (text : p ≡ written s.window h) where
  after_first : MakesLines (lines_after s a (length h)) b q u → MakesLines s (a ++ b) (p ++ q) u
  after_first k =
      let now = (lines_after s a (length h)).window in
      record {
        lines = h ++ k.lines;
        are = lines_of_both s.wanted s.names s.before a b h k.lines are k.are;
        text_is = (λ i. text i ++ k.text_is i) ∙ written_more s.window now h k.lines refl;
        then = k.then ∙ (λ i. record { wanted = s.wanted; window = after_more s.window now h k.lines refl i; names = names_both s.names a b i; before = sym (after_both s.before a b) i });
      }

pub joins : (s t u : LinesState) (a b : List Placed) (p q : List ℕ) → MakesLines s a p t → MakesLines t b q u → MakesLines s (a ++ b) (p ++ q) u
joins s t u a b p q h k = after_first s a b p q u h.lines h.are h.text_is (subst (λ (x : LinesState). MakesLines x b q u) h.then k)

pub quiet : (a : LineRenderer) (s t : LinesState) (items : List Placed) (text : List ℕ) → false ≡ true → StandsAt a s → MakesLines s items text t → text ≡ []
quiet a s t items text never there h = absurd (false≢true never)
