-- The STRING of a text.
-- D-Bus Specification, "Basic types".
use Rattle.std.specs.Prelude.{◌≡◌, ℕ, List, Result, Ok, Err, Some}
use Rattle.dbus_texts.specs.Types.{STRING}
use Rattle.dbus_texts.specs.Kinds.{IsKind}
use Rattle.dbus_texts.specs.Verdicts.{IsTextBreak}
use Rattle.dbus_texts.specs.declared.text_kind.TextKind.TheVariants.{Text}
use Rattle.dbus_value_model.specs.Values.{TextValue}
use Rattle.dbus_value_model.specs.ValueViews.{value_tree}
use Rattle.dbus_value_model.specs.declared.text_value.StringFault.{StringFault}
use Rattle.dbus_value_model.specs.declared.text_value.StringFault.TheVariants.{Memory, Bad}
use Rattle.dbus_value_model.specs.declared.value.Value.{Value}

-- the text is a STRING's and the value is that STRING; or the text is a STRING's, and an allocation
-- failed; or it is none, and breaks there
abbrev pub IsString : {A : Type 0} → List ℕ → Result (Value A) StringFault → Type 0
IsString t (Ok v) = IsKind Text t × (value_tree v ≡ TextValue STRING t)
IsString t (Err Memory) = IsKind Text t
IsString t (Err (Bad at)) = IsTextBreak Text t (Some at)
