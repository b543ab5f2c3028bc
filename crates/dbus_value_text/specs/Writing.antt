-- What the draft of a writer gains.
use Rattle.std.specs.Prelude.{◌≡◌, ℕ, List}
use Rattle.dbus_value_model.specs.Values.{ValueTree, ValueTrees}
use Rattle.dbus_value_text.specs.Forms.{AreTexts, IsListed, joined}
use Rattle.dbus_value_text.specs.declared.writer.Writer.{Writer}

module _ {D F : Type 0} (gains : D → List ℕ → D → Type 0) where
  -- a text
  pub record Writes (before : Writer D F) (text : List ℕ) (now : Writer D F) : Type 0 where
    pub same : now.draft.ghost_name ≡ before.draft.ghost_name
    pub gained : gains before.draft.now text now.draft.now

  -- a text of which this holds
  abbrev pub WritesSome : (before : Writer D F) → (List ℕ → Type 0) → (now : Writer D F) → Type 0
  WritesSome before Is now = (text : List ℕ) × Is text × Writes before text now

  -- the texts of values in a row
  abbrev pub WritesAll : (ValueTree → List ℕ → Type 0) → (separator : List ℕ) → (before : Writer D F) → ValueTrees → (now : Writer D F) → Type 0
  WritesAll Is separator before xs now = (texts : List (List ℕ)) × AreTexts Is xs texts × Writes before (joined separator texts) now

  -- what stands before the parts of a container
  pub record Opens (before : Writer D F) (v : ValueTree) (text : List ℕ) (now : Writer D F) : Type 0 where
    pub listed : IsListed v
    pub written : Writes before text now
