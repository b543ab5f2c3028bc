-- What the checks of texts answer.
-- D-Bus Specification, "Valid Object Paths", "Valid Names" and "Valid Signatures".
use Rattle.std.specs.Prelude.{ℕ, ◌<◌, ◌≤◌, List, length, Result, Ok, Err, Option, Some, None, Bool, true, false}
use Rattle.dbus_texts.specs.declared.text_kind.TextKind.{TextKind}
use Rattle.dbus_texts.specs.declared.check.NameFault.{NameFault}
use Rattle.dbus_texts.specs.declared.check.NameFault.TheVariants as names
use Rattle.dbus_texts.specs.declared.check.SigFault.{SigFault}
use Rattle.dbus_texts.specs.declared.check.SigFault.TheVariants as signatures
use Rattle.dbus_texts.specs.Kinds.{IsOfKind, IsKind, IsBreak, IsPrefixIn}
use Rattle.dbus_texts.specs.Quotients.{IsBreakFrom}
use Rattle.dbus_texts.specs.declared.text_kind.TextKind.TheVariants.{Text, Path}

-- the text is of the kind, its length aside; or it is not, and breaks there
abbrev pub IsBreakOf : TextKind → List ℕ → Option ℕ → Type 0
IsBreakOf kind w at = IsBreakFrom (IsOfKind kind) w at

-- the text is of the kind; or it is not, and breaks there
abbrev pub IsTextBreak : TextKind → List ℕ → Option ℕ → Type 0
IsTextBreak kind w None = IsKind kind w
IsTextBreak kind w (Some at) = (IsKind kind w → ⊥) × IsBreak kind w at

-- of a kind with a limit of 255 bytes: the text is of the kind; or it is too long, which comes
-- first; or it breaks there
abbrev pub IsVerdict : TextKind → List ℕ → Result (Unit {0}) NameFault → Type 0
IsVerdict kind w (Ok x) = IsKind kind w
IsVerdict kind w (Err names.TooLong) = 255 < length w
IsVerdict kind w (Err (names.Bad at)) = (length w ≤ 255) × (IsOfKind kind w → ⊥) × IsBreak kind w at

-- of a kind without a limit
abbrev pub IsPathVerdict : TextKind → List ℕ → Result (Unit {0}) NameFault → Type 0
IsPathVerdict kind w (Ok x) = IsKind kind w
IsPathVerdict kind w (Err names.TooLong) = ⊥
IsPathVerdict kind w (Err (names.Bad at)) = (IsOfKind kind w → ⊥) × IsBreak kind w at

-- of signatures
abbrev pub IsSigVerdict : TextKind → List ℕ → Result (Unit {0}) SigFault → Type 0
IsSigVerdict kind w (Ok x) = IsKind kind w
IsSigVerdict kind w (Err signatures.Memory) = ⊥
IsSigVerdict kind w (Err signatures.TooLong) = 255 < length w
IsSigVerdict kind w (Err (signatures.Bad at)) = (length w ≤ 255) × (IsOfKind kind w → ⊥) × IsBreak kind w at

-- The kinds of text that have a limit on length, and prefixes of texts of a kind.
-- D-Bus Specification, "Valid Names" and "Valid Signatures".

-- whether the kind has a limit on length
abbrev pub is_limited : TextKind → Bool
is_limited Text = false
is_limited Path = false
is_limited _ = true

-- some text of the kind begins with w, limits on length lifted
abbrev pub IsPrefixOf : TextKind → List ℕ → Type 0
IsPrefixOf kind w = IsPrefixIn (IsOfKind kind) w
