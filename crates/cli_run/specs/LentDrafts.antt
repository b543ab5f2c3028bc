-- What a draft that is lent gains, and the laws that a `Draft` owes. They are here, and not in
-- proofs/, because the trait's laws name them.
use Rattle.std.proofs.Common.{◌≡◌, ℕ, List, [], ◌++◌, refl, ◌∙◌}
use Rattle.cli_run.specs.declared.byte_draft.LentDraft.{LentDraft}

module _ {D : Type 0} (gains : D → List ℕ → D → Type 0) where
  -- it is the same draft, which gained the text
  abbrev pub GainsLent : LentDraft D → List ℕ → LentDraft D → Type 0
  GainsLent a text b = (b.draft.ghost_name ≡ a.draft.ghost_name) × gains a.draft.now text b.draft.now

  pub unchanged : ((a : D) → gains a [] a) → (a : LentDraft D) → GainsLent a [] a
  unchanged none a = (refl, none a.draft.now)

  pub joined : ((a b c : D) (s t : List ℕ) → gains a s b → gains b t c → gains a (s ++ t) c) → (a b c : LentDraft D) (s t : List ℕ) → GainsLent a s b → GainsLent b t c → GainsLent a (s ++ t) c
  joined both a b c s t p q = (q.0 ∙ p.0, both a.draft.now b.draft.now c.draft.now s t p.1 q.1)
