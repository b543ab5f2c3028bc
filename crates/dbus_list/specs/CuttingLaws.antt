-- Texts that a draft that cuts gains one after the other.
use Rattle.std.proofs.Common.{ℕ, List, [], ◌++◌, refl, sym, ◌∙◌, subst, append_assoc, append-nil}
use Rattle.dbus_list.specs.Cutting.{Gains, HasCut}
use Rattle.dbus_list.specs.declared.cut_draft.CutDraft.{CutDraft}

module _ {D : Type 0} (gains : D → List ℕ → D → Type 0) where
  pub nothing : (a : CutDraft D) → Gains gains a [] a
  nothing a = record {
    same = refl;
    more = λ before most so_far h. subst (λ (t : List ℕ). HasCut gains before most t a) (sym (append-nil so_far)) h;
  }

  pub joins : (a b c : CutDraft D) (s t : List ℕ) → Gains gains a s b → Gains gains b t c → Gains gains a (s ++ t) c
  joins a b c s t p q = record {
    same = q.same ∙ p.same;
    more = λ before most so_far h. subst (λ (u : List ℕ). HasCut gains before most u c) (append_assoc so_far s t) (q.more before most (so_far ++ s) (p.more before most so_far h));
  }
