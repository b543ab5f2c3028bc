-- A draft of escaped texts.
use Rattle.std.specs.Prelude.{◌≡◌, ℕ, List, IsUtf8}
use Rattle.dbus_show.specs.Escapes.{escaped}
use Rattle.dbus_explain.specs.declared.escaping.Escaping.{Escaping}

-- the draft below gains the text with its escapes
pub record GainsEscaped {D : Type 0} (gains : D → List ℕ → D → Type 0) (before : Escaping D) (text : List ℕ) (after : Escaping D) : Type 0 where
  pub same : after.draft.ghost_name ≡ before.draft.ghost_name
  pub same_escapes : after.escapes ≡ before.escapes
  pub is_text : IsUtf8 text
  pub gained : gains before.draft.now (escaped before.escapes text) after.draft.now
