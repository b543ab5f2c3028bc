-- The laws of what sums up calls. They are here, and not in proofs/, because the trait's laws name
-- them.
use Rattle.std.proofs.Common.{◌≡◌, ℕ, false, true, List, [], ◌++◌, refl, sym, ap, ◌∙◌, subst, append-nil, append_assoc}
use Rattle.dbus_call_lines.specs.Keeping.{EndedCall, ended_rows}
use Rattle.dbus_call_lines.specs.Listing.{AreListedBy, Row}
use Rattle.dbus_call_lines.specs.declared.wanted.Wanted.{Wanted}
use Rattle.dbus_call_lines.proofs.Steps.{ended_both}
use Rattle.dbus_call_members.specs.Summing.{members}
use Rattle.cli_run.specs.CallLaws.{after_both, by_both, or_false, rises_both, rises_first, times_both}
use Rattle.cli_run.specs.CallListing.{numbered}
use Rattle.cli_run.specs.CallSumming.{FollowRising, MakesSums, SumsAt, SumsState, sums_after}
use Rattle.cli_run.specs.Inputs.{Placed}
use Rattle.cli_run.specs.declared.call_summing.SumRenderer.{SumRenderer}

-- the calls of some rows, and of others
calls_both : (wanted : Wanted) (earlier : List EndedCall) (a b : List Row) → (earlier ++ ended_rows members wanted a) ++ ended_rows members wanted b ≡ earlier ++ ended_rows members wanted (a ++ b)
calls_both wanted earlier a b = append_assoc earlier (ended_rows members wanted a) (ended_rows members wanted b) ∙ ap (λ l. earlier ++ l) (sym (ended_both members wanted a b))

pub nothing : (s : SumsState) → MakesSums s [] [] s
nothing s = record {
  rows = [];
  are = refl;
  none = refl;
  then = λ i. record { wanted = s.wanted; timed = or_false s.timed i; before = sym (append-nil s.before) i; earlier = sym (append-nil s.earlier) i };
}

-- from where the first rows leave off
after_first : (s : SumsState) (a b : List Placed) (p q : List ℕ) (u : SumsState) (h : List Row) → AreListedBy s.before (numbered a) h → p ≡ [] → MakesSums (sums_after s a h) b q u → MakesSums s (a ++ b) (p ++ q) u
after_first s a b p q u h are none k = record {
  rows = h ++ k.rows;
  are = by_both s.before a b h k.rows are k.are;
  none = λ i. none i ++ k.none i;
  then = k.then ∙ (λ i. record { wanted = s.wanted; timed = times_both s.timed a b i; before = sym (after_both s.before a b) i; earlier = calls_both s.wanted s.earlier h k.rows i });
}

pub joins : (s t u : SumsState) (a b : List Placed) (p q : List ℕ) → MakesSums s a p t → MakesSums t b q u → MakesSums s (a ++ b) (p ++ q) u
joins s t u a b p q h k = after_first s a b p q u h.rows h.are h.none (subst (λ (x : SumsState). MakesSums x b q u) h.then k)

pub splits : (s : SumsState) (a b : List Placed) → FollowRising s (a ++ b) → FollowRising s a × ((t : SumsState) (p : List ℕ) → MakesSums s a p t → FollowRising t b)
splits s a b up = (rises_first s.before a b up, λ t p h. subst (λ (x : SumsState). FollowRising x b) (sym h.then) (rises_both s.before a b up))

pub quiet : (a : SumRenderer) (s t : SumsState) (items : List Placed) (text : List ℕ) → false ≡ true → SumsAt a s → MakesSums s items text t → text ≡ []
quiet a s t items text never there h = h.none
