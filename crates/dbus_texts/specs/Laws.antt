-- Laws of the kinds of text.
-- D-Bus Specification, "Basic types", "Valid Object Paths", "Valid Names" and "Valid Signatures".
use Rattle.std.specs.Prelude.{◌≡◌, ◌≢◌, ◌↔◌, ℕ, List, IsTrue, IsUtf8}
use Rattle.std.specs.List.{AllByRecursion}
use Rattle.dbus_texts.specs.declared.text_kind.TextKind.{TextKind}
use Rattle.dbus_texts.specs.declared.text_kind.TextKind.TheVariants.{Text}
use Rattle.dbus_texts.specs.Kinds.{IsText, IsKind, IsBreak}
use Rattle.dbus_texts.specs.ComputedKinds.{is_kind, break_at, IsName}

-- a text is of a kind exactly where the slow function says so
abbrev pub KindsAreComputed : Type 0
KindsAreComputed = (k : TextKind) (t : List ℕ) → IsTrue (is_kind k t) ↔ IsKind k t

-- a text has one break, which the slow function gives
abbrev pub BreaksAreComputed : Type 0
BreaksAreComputed = (k : TextKind) (t : List ℕ) (i : ℕ) → IsBreak k t i ↔ (i ≡ break_at k t)

-- the texts of kind Text are UTF-8 without a zero byte
abbrev pub TextsAreUtf8 : Type 0
TextsAreUtf8 = (t : List ℕ) → IsText t ↔ (IsUtf8 t × AllByRecursion (λ b. b ≢ 0) t)

-- names are texts
abbrev pub NamesAreTexts : Type 0
NamesAreTexts = (k : TextKind) (t : List ℕ) → IsName k → IsKind k t → IsKind Text t
