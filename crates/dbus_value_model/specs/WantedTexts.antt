-- Trusted by the headline.
-- The texts that may stand at a place: those of a kind, or one alone. D-Bus Specification, "Basic
-- types", "Valid Signatures", "Valid Object Paths", "Valid Names"; "Header Fields" for the one
-- signature of a field.
use Rattle.std.specs.Prelude.{◌≡◌, ℕ, List}
use Rattle.dbus_texts.specs.Types.{TextCode, STRING, OBJECT_PATH, SIGNATURE}
use Rattle.dbus_texts.specs.declared.text_kind.TextKind.{TextKind}
use Rattle.dbus_texts.specs.declared.text_kind.TextKind.TheVariants as kinds
use Rattle.dbus_texts.specs.Kinds.{IsBreakIn, IsKind, IsBreak}

pub data WantedText : Type 0 where
  Of : TextKind → WantedText
  Only : List ℕ → WantedText

abbrev pub kind_of : TextCode → WantedText
kind_of STRING = Of kinds.Text
kind_of OBJECT_PATH = Of kinds.Path
kind_of SIGNATURE = Of kinds.Signature

-- the text is one of those wanted
abbrev pub IsWanted : WantedText → List ℕ → Type 0
IsWanted (Of k) t = IsKind k t
IsWanted (Only u) t = t ≡ u

-- n is the length of the longest prefix of the text with which one of those wanted begins, limits
-- on length lifted
abbrev pub IsBreakOf : WantedText → List ℕ → ℕ → Type 0
IsBreakOf (Of k) t n = IsBreak k t n
IsBreakOf (Only u) t n = IsBreakIn (λ v. v ≡ u) t n
