-- What a draft that joins pieces does with one.
use Rattle.std.proofs.Common.{◌≡◌, ℕ, List, [], ◌++◌, sym, ap, subst, ◌∙◌, append_assoc, append-nil}
use Rattle.dbus_list.specs.Joining.{Gains, HasJoined}
use Rattle.dbus_list.specs.declared.joined_draft.JoinedDraft.{JoinedDraft}

module _ {D : Type 0} (gains : D → List ℕ → D → Type 0) where
  -- it is kept
  pub keeps : (a b : JoinedDraft D) (text : List ℕ) → b.draft ≡ a.draft → b.kept.bytes ≡ a.kept.bytes ++ text → Gains gains a text b
  keeps a b text same longer = record {
    same = ap (λ d. d.ghost_name) same;
    more = λ before so_far h. record {
      front = h.front;
      gained = subst (λ d. gains before h.front d.now) (sym same) h.gained;
      whole = ap (λ (t : List ℕ). h.front ++ t) longer ∙ sym (append_assoc h.front a.kept.bytes text) ∙ ap (λ (t : List ℕ). t ++ text) h.whole;
    };
  }

  module _ (then : (a b c : D) (s t : List ℕ) → gains a s b → gains b t c → gains a (s ++ t) c) where
    -- what was kept was handed on, and then it was
    pub passes : (a b : JoinedDraft D) (between : D) (text : List ℕ) → b.draft.ghost_name ≡ a.draft.ghost_name
        → ((before : D) (so_far : List ℕ) → HasJoined gains before so_far a → gains before so_far between) → gains between text b.draft.now → b.kept.bytes ≡ [] → Gains gains a text b
    passes a b between text same all gained none = record {
      same = same;
      more = λ before so_far h. record {
        front = so_far ++ text;
        gained = then before between b.draft.now so_far text (all before so_far h) gained;
        whole = ap (λ (t : List ℕ). (so_far ++ text) ++ t) none ∙ append-nil (so_far ++ text);
      };
    }

    -- nothing is kept of what the draft below has
    pub all_below : (a : JoinedDraft D) → a.kept.bytes ≡ [] → (before : D) (so_far : List ℕ) → HasJoined gains before so_far a → gains before so_far a.draft.now
    all_below a none before so_far h =
        subst (λ (t : List ℕ). gains before t a.draft.now) (sym (append-nil h.front) ∙ ap (λ (t : List ℕ). h.front ++ t) (sym none) ∙ h.whole) h.gained
