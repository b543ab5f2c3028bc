-- What a draft that joins the pieces of a text has written.
use Rattle.std.specs.Prelude.{◌≡◌, ℕ, List, ◌++◌}
use Rattle.dbus_list.specs.declared.joined_draft.JoinedDraft.{JoinedDraft}

module _ {D : Type 0} (gains : D → List ℕ → D → Type 0) where
  -- the draft below gained the front of the text so far, and the rest is kept
  pub record HasJoined (before : D) (text : List ℕ) (d : JoinedDraft D) : Type 0 where
    pub front : List ℕ
    pub gained : gains before front d.draft.now
    pub whole : front ++ d.kept.bytes ≡ text

  -- it gains a text, whatever it has so far
  pub record Gains (a : JoinedDraft D) (text : List ℕ) (b : JoinedDraft D) : Type 0 where
    pub same : b.draft.ghost_name ≡ a.draft.ghost_name
    pub more : (before : D) (so_far : List ℕ) → HasJoined before so_far a → HasJoined before (so_far ++ text) b
