-- The laws of what makes the lines of calls. They are here, and not in proofs/, because the trait's
-- laws name them.
use Rattle.std.proofs.Common.{◌≡◌, ℕ, Bool, true, false, ◌||◌, is_some, List, [], ◌∷◌, ◌++◌, refl, sym, ap, ◌∙◌, subst, append-nil, append_assoc}
use Rattle.dbus_call_lines.specs.Listing.{AreListedBy, AreRising, Numbered, Row, nth, rows_text}
use Rattle.dbus_call_lines.proofs.Along.{listed_both}
use Rattle.dbus_call_lines.proofs.Some.{front_rises}
use Rattle.dbus_call_lines.proofs.Written.{lines_both}
use Rattle.dbus_names.specs.NameStates.{NameState}
use Rattle.std.proofs.lemmas.Bool.{false≢true}
use Rattle.cli_run.specs.CallListing.{CallsState, FollowRising, ListsAt, MakesCalls, calls_after, have_time, named, named_at, number_and_time, numbered}
use Rattle.cli_run.specs.Inputs.{Placed}
use Rattle.cli_run.specs.LineNames.{names_after, names_after_all}
use Rattle.cli_run.specs.declared.call_listing.CallRenderer.{CallRenderer}

numbered_both : (s t : List Placed) → numbered (s ++ t) ≡ numbered s ++ numbered t
numbered_both [] t = refl
numbered_both (m ∷ s) t = ap (λ l. nth (number_and_time m.place) m.item.message ∷ l) (numbered_both s t)

pub or_false : (x : Bool) → x ≡ (x || false)
or_false true = refl
or_false false = refl

or_both : (x y z : Bool) → ((x || y) || z) ≡ (x || (y || z))
or_both true y z = refl
or_both false y z = refl

pub times_both : (x : Bool) (s t : List Placed) → ((x || have_time s) || have_time t) ≡ (x || have_time (s ++ t))
times_both x [] t = ap (λ z. z || have_time t) (sym (or_false x))
times_both x (m ∷ s) t = ap (λ z. z || have_time t) (sym (or_both x (is_some m.place.time) (have_time s))) ∙ (times_both (x || is_some m.place.time) s t ∙ or_both x (is_some m.place.time) (have_time (s ++ t)))

-- what is known after messages and others, and the names that they tell
pub names_both : (os : NameState) (s t : List Placed) → names_after_all (names_after_all os s) t ≡ names_after_all os (s ++ t)
names_both os [] t = refl
names_both os (m ∷ s) t = names_both (names_after os m.item.message) s t

pub named_both : (os : NameState) (s t : List Placed) → named os (s ++ t) ≡ named os s ++ named (names_after_all os s) t
named_both os [] t = refl
named_both os (m ∷ s) t = let now = names_after os m.item.message in ap (λ l. named_at m.place now m.item.message ∷ l) (named_both now s t)

-- the numbers of messages and of others rise
module _ (before all s t : List Numbered) (both : all ≡ s ++ t) where
  pub then_both : before ++ all ≡ (before ++ s) ++ t
  then_both = ap (λ l. before ++ l) both ∙ sym (append_assoc before s t)

  pub rise_both : AreRising (before ++ all) → AreRising ((before ++ s) ++ t)
  rise_both up = subst AreRising then_both up

  pub rise_first : AreRising (before ++ all) → AreRising (before ++ s)
  rise_first up = front_rises (before ++ s) t (rise_both up)

  pub listed_by_both : (a b : List Row) → AreListedBy before s a → AreListedBy (before ++ s) t b → AreListedBy before all (a ++ b)
  listed_by_both a b h k = subst (λ (l : List Numbered). AreListedBy before l (a ++ b)) (sym both) (listed_both before s t a b h k)

module _ (before : List Numbered) (s t : List Placed) where
  pub after_both : before ++ numbered (s ++ t) ≡ (before ++ numbered s) ++ numbered t
  after_both = then_both before (numbered (s ++ t)) (numbered s) (numbered t) (numbered_both s t)

  pub rises_both : AreRising (before ++ numbered (s ++ t)) → AreRising ((before ++ numbered s) ++ numbered t)
  rises_both = rise_both before (numbered (s ++ t)) (numbered s) (numbered t) (numbered_both s t)

  pub rises_first : AreRising (before ++ numbered (s ++ t)) → AreRising (before ++ numbered s)
  rises_first = rise_first before (numbered (s ++ t)) (numbered s) (numbered t) (numbered_both s t)

  pub by_both : (a b : List Row) → AreListedBy before (numbered s) a → AreListedBy (before ++ numbered s) (numbered t) b → AreListedBy before (numbered (s ++ t)) (a ++ b)
  by_both = listed_by_both before (numbered (s ++ t)) (numbered s) (numbered t) (numbered_both s t)

-- ---- the laws

pub nothing : (s : CallsState) → MakesCalls s [] [] s
nothing s = record {
  rows = [];
  are = refl;
  text_is = refl;
  after_is = λ i. record { wanted = s.wanted; names = s.names; timed = or_false s.timed i; before = sym (append-nil s.before) i };
}

module _ (s : CallsState) (a b : List Placed) where
  abbrev all : List Numbered
  all = named s.names (a ++ b)

  abbrev now : NameState
  now = names_after_all s.names a

  apart : all ≡ named s.names a ++ named now b
  apart = named_both s.names a b

  -- from where the first rows leave off
  after_first : (p q : List ℕ) (u : CallsState) (h : List Row) → AreListedBy s.before (named s.names a) h → p ≡ rows_text s.wanted h → MakesCalls (calls_after s a) b q u → MakesCalls s (a ++ b) (p ++ q) u
  after_first p q u h are text k = record {
    rows = h ++ k.rows;
    are = listed_by_both s.before all (named s.names a) (named now b) apart h k.rows are k.are;
    text_is = (λ i. text i ++ k.text_is i) ∙ sym (lines_both s.wanted h k.rows);
    after_is = k.after_is ∙ (λ i. record { wanted = s.wanted; names = names_both s.names a b i; timed = times_both s.timed a b i; before = sym (then_both s.before all (named s.names a) (named now b) apart) i });
  }

  pub splits : FollowRising s (a ++ b) → FollowRising s a × ((t : CallsState) (p : List ℕ) → MakesCalls s a p t → FollowRising t b)
  splits up = (
    rise_first s.before all (named s.names a) (named now b) apart up,
    λ t p h. subst (λ (x : CallsState). FollowRising x b) (sym h.after_is) (rise_both s.before all (named s.names a) (named now b) apart up),
  )

pub joins : (s t u : CallsState) (a b : List Placed) (p q : List ℕ) → MakesCalls s a p t → MakesCalls t b q u → MakesCalls s (a ++ b) (p ++ q) u
joins s t u a b p q h k = after_first s a b p q u h.rows h.are h.text_is (subst (λ (x : CallsState). MakesCalls x b q u) h.after_is k)

pub quiet : (a : CallRenderer) (s t : CallsState) (items : List Placed) (text : List ℕ) → false ≡ true → ListsAt a s → MakesCalls s items text t → text ≡ []
quiet a s t items text never there h = absurd (false≢true never)
