-- What is told of a text by numbers: whether it is of a kind, and else why not.
-- D-Bus Specification, "Basic types", "Valid Object Paths", "Valid Names" and "Valid Signatures".
use Rattle.std.specs.Prelude.{◌≡◌, ℕ, List, nat_eq, if◌then◌else◌, Option, Some, None}
use Rattle.dbus_texts.specs.declared.text_kind.TextKind.{TextKind}
use Rattle.dbus_texts.specs.Kinds.{IsKind, IsWithinLimit, IsBreak}
use Rattle.dbus_texts.specs.declared.text_kind.TextKind.TheVariants.{Text, Path, Interface, Member, ErrorName, BusName, Signature, Single}
use Rattle.dbus_c.specs.declared.answers.TheConstants.{WHOLE, REFUSED}
use Rattle.dbus_c.specs.declared.texts.TextChecked.{TextChecked}

-- the text is of the kind; or it is longer than the kind allows; or it is not of the kind, and
-- breaks at the offset that is told
pub data TellsText (kind : TextKind) (w : List ℕ) (answer : ℕ) (told : TextChecked) : Type 0 where
  accepted : IsKind kind w → answer ≡ WHOLE → told ≡ record { offset = 0; is_too_long = 0; reserved = 0 } → TellsText kind w answer told
  too_long : (IsWithinLimit kind w → ⊥) → answer ≡ REFUSED → told ≡ record { offset = 0; is_too_long = 1; reserved = 0 } → TellsText kind w answer told
  bad : (at : ℕ) → IsWithinLimit kind w → (IsKind kind w → ⊥) → IsBreak kind w at → answer ≡ REFUSED → told ≡ record { offset = at; is_too_long = 0; reserved = 0 } → TellsText kind w answer told

-- The kinds of text, by number.
-- D-Bus Specification, "Basic types", "Valid Object Paths", "Valid Names" and "Valid Signatures".

-- the kind that has this number
abbrev pub kind_numbered : ℕ → Option TextKind
kind_numbered n =
    if nat_eq n 1 then Some Text else if nat_eq n 2 then Some Path else if nat_eq n 3 then Some Interface
    else if nat_eq n 4 then Some Member else if nat_eq n 5 then Some ErrorName else if nat_eq n 6 then Some BusName
    else if nat_eq n 7 then Some Signature else if nat_eq n 8 then Some Single else None
