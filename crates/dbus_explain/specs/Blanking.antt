-- A draft of blanks.
use Rattle.std.specs.Prelude.{◌≡◌, ℕ, List, IsUtf8}
use Rattle.dbus_explain.specs.Explained.{blanks}
use Rattle.dbus_explain.specs.declared.blanks.Blanks.{Blanks}

-- the draft below gains a blank for each character of the text
pub record Blanking {D : Type 0} (gains : D → List ℕ → D → Type 0) (before : Blanks D) (text : List ℕ) (after : Blanks D) : Type 0 where
  pub same : after.draft.ghost_name ≡ before.draft.ghost_name
  pub is_text : IsUtf8 text
  pub gained : gains before.draft.now (blanks text) after.draft.now
