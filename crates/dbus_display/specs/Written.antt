-- What a formatter writes for a draft.
use Rattle.std.specs.Prelude.{◌≡◌, ℕ, List, true, false}
use Rattle.std.specs.Fmt.{HasWritten, IsPlainFormatter}
use Rattle.dbus_display.specs.declared.formatter_draft.FormatterDraft.{FormatterDraft}

-- A draft gains a text: the formatter writes it, or a write fails. A draft for which a write failed
-- stays so. The formatter that writes is the same.
module _ {W : Type 0} (took : W → List ℕ → W → Type 0) where
  pub record Gains (before : FormatterDraft W) (text : List ℕ) (after : FormatterDraft W) : Type 0 where
    pub same : after.formatter.ghost_name ≡ before.formatter.ghost_name
    pub stays : before.failed ≡ true → after.failed ≡ true
    pub written : after.failed ≡ false → IsPlainFormatter before.formatter.now → HasWritten took before.formatter.now text after.formatter.now
