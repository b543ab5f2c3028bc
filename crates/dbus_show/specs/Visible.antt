-- A draft in which hidden characters are seen.
use Rattle.std.specs.Prelude.{◌≡◌, ℕ, List, IsUtf8}
use Rattle.dbus_show.specs.Escapes.{visible}
use Rattle.dbus_show.specs.declared.visible.Visible.{Visible}

-- the draft below gains the text with its hidden characters escaped
pub record Sees {D : Type 0} (gains : D → List ℕ → D → Type 0) (before : Visible D) (text : List ℕ) (after : Visible D) : Type 0 where
  pub same : after.draft.ghost_name ≡ before.draft.ghost_name
  pub is_text : IsUtf8 text
  pub gained : gains before.draft.now (visible text) after.draft.now
