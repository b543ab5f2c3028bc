-- The laws of what counts messages by their names. They are here, and not in proofs/, because the
-- trait's laws name them.
use Rattle.std.proofs.Common.{◌≡◌, ℕ, false, true, List, [], ◌∷◌, ◌++◌, map, Option, Some, inl, inr, refl, sym, ap, ◌∙◌, subst, append_assoc}
use Rattle.std.proofs.lemmas.List.{map-append}
use Rattle.std.specs.Option.{option_to_list}
use Rattle.dbus_count.specs.Counting.{names_of, with_names}
use Rattle.dbus_count.specs.Spans.{with_time, with_times}
use Rattle.dbus_count.specs.declared.count.Count.{Count}
use Rattle.dbus_count.specs.declared.span.Span.{Span}
use Rattle.dbus_names.specs.NameStates.{NameState}
use Rattle.dbus_stream.specs.Cut.{CutMessage}
use Rattle.cli_options.specs.declared.selection.Selection.{Selection}
use Rattle.cli_run.specs.ByName.{CountsState, MakesCounts, after_messages, counts_after, counts_at, items_of, times_of}
use Rattle.cli_run.specs.Inputs.{Placed}
use Rattle.cli_run.specs.Learning.{AreSelected, known_after, known_after_all}
use Rattle.cli_run.specs.VisitorLaws.{known_both}
use Rattle.cli_run.specs.declared.by_name.CountRenderer.{CountRenderer}

-- those that are selected of messages, and of others after them
selected_both : (selection : Option Selection) (os : NameState) (s t a b : List Placed) → AreSelected selection os s a → AreSelected selection (known_after_all selection os s) t b → AreSelected selection os (s ++ t) (a ++ b)
selected_both selection os [] t a b p q = subst (λ (l : List Placed). AreSelected selection os t (l ++ b)) (sym p) q
selected_both selection os (m ∷ s) t a b p q = (
  p.0 ++ b,
  selected_both selection (known_after selection os m.item.message) s t p.0 b p.1 q,
  elim p.2 [ inl is ↦ inl (is.0, ap (λ (l : List Placed). l ++ b) is.1) | inr not ↦ inr (not.0, ap (λ (l : List Placed). l ++ b) not.1) ],
)

-- the count of a name after messages, and then others
counted_after : (s t : List CutMessage) (name : List ℕ) (c : Option Count) → after_messages (s ++ t) name c ≡ after_messages t name (after_messages s name c)
counted_after [] t name c = refl
counted_after (item ∷ s) t name c = counted_after s t name (with_names (names_of item.message) item.size name c)

counted_both : (s t : List Placed) (name : List ℕ) (c : Option Count) → after_messages (items_of (s ++ t)) name c ≡ after_messages (items_of t) name (after_messages (items_of s) name c)
counted_both s t name c = ap (λ (l : List CutMessage). after_messages l name c) (map-append (λ (m : Placed). m.item) s t) ∙ counted_after (items_of s) (items_of t) name c

-- the span after times, and then others
spans_both : (a b : List ℕ) (span : Option Span) → with_times (a ++ b) span ≡ with_times b (with_times a span)
spans_both [] b span = refl
spans_both (time ∷ a) b span = spans_both a b (Some (with_time time span))

times_both : (s t : List Placed) → times_of (s ++ t) ≡ times_of s ++ times_of t
times_both [] t = refl
times_both (m ∷ s) t = ap (λ l. option_to_list m.place.time ++ l) (times_both s t) ∙ sym (append_assoc (option_to_list m.place.time) (times_of s) (times_of t))

-- ---- the laws

pub nothing : (s : CountsState) → MakesCounts s [] [] s
nothing s = record { selected = []; are = refl; none = refl; then = refl }

-- from where the first messages leave off
after_first : (s : CountsState) (a b : List Placed) (p q : List ℕ) (u : CountsState) (h : List Placed) → AreSelected s.selection s.owners a h → p ≡ [] → MakesCounts (counts_after s a h) b q u → MakesCounts s (a ++ b) (p ++ q) u
after_first s a b p q u h are none k = record {
  selected = h ++ k.selected;
  are = selected_both s.selection s.owners a b h k.selected are k.are;
  none = λ i. none i ++ k.none i;
  then = k.then ∙ (λ i. record {
    form = s.form;
    selection = s.selection;
    owners = known_both s.selection s.owners a b i;
    counts = λ name. sym (counted_both h k.selected name (s.counts name)) i;
    span = (sym (spans_both (times_of h) (times_of k.selected) s.span) ∙ ap (λ l. with_times l s.span) (sym (times_both h k.selected))) i;
  });
}

pub joins : (s t u : CountsState) (a b : List Placed) (p q : List ℕ) → MakesCounts s a p t → MakesCounts t b q u → MakesCounts s (a ++ b) (p ++ q) u
joins s t u a b p q h k = after_first s a b p q u h.selected h.are h.none (subst (λ (x : CountsState). MakesCounts x b q u) h.then k)

pub quiet : (a : CountRenderer) (s t : CountsState) (items : List Placed) (text : List ℕ) → false ≡ true → s ≡ counts_at a → MakesCounts s items text t → text ≡ []
quiet a s t items text never there h = h.none
