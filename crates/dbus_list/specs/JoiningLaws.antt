-- Texts that a draft that joins pieces gains one after the other.
use Rattle.std.proofs.Common.{ℕ, List, [], ◌++◌, refl, sym, ◌∙◌, subst, append_assoc, append-nil}
use Rattle.dbus_list.specs.Joining.{Gains, HasJoined}
use Rattle.dbus_list.specs.declared.joined_draft.JoinedDraft.{JoinedDraft}

module _ {D : Type 0} (gains : D → List ℕ → D → Type 0) where
  pub nothing : (a : JoinedDraft D) → Gains gains a [] a
  nothing a = record {
    same = refl;
    more = λ before so_far h. subst (λ (t : List ℕ). HasJoined gains before t a) (sym (append-nil so_far)) h;
  }

  pub joins : (a b c : JoinedDraft D) (s t : List ℕ) → Gains gains a s b → Gains gains b t c → Gains gains a (s ++ t) c
  joins a b c s t p q = record {
    same = q.same ∙ p.same;
    more = λ before so_far h. subst (λ (u : List ℕ). HasJoined gains before u c) (append_assoc so_far s t) (q.more before (so_far ++ s) (p.more before so_far h));
  }
