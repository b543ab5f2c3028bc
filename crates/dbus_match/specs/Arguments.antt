-- What rules see of the values of a body. D-Bus Specification, "Match Rules".
use Rattle.std.specs.Prelude.{◌≡◌, ℕ, Option, Some, None, List, [], ◌∷◌}
use Rattle.dbus_value_model.specs.Values.{ValueTree, ValueTrees, NoValues, MoreValues}
use Rattle.dbus_value_model.specs.declared.order.Order.{Order}
use Rattle.dbus_message_model.specs.Messages.{MessageTree}
use Rattle.dbus_view.specs.Views.{Views, ViewState}
use Rattle.dbus_match.specs.declared.argument.Argument.{Argument}
use Rattle.dbus_match.specs.declared.argument.Argument.TheVariants.{Str, Path, Other}
use Rattle.dbus_match.specs.Matching.{string_of, string_or_path_of}

-- the text of a STRING
abbrev pub string_in : Argument → Option (List ℕ)
string_in (Str s) = Some s.now
string_in (Path s) = None
string_in Other = None

-- the text of a STRING or an OBJECT_PATH
abbrev pub string_or_path_in : Argument → Option (List ℕ)
string_or_path_in (Str s) = Some s.now
string_or_path_in (Path s) = Some s.now
string_or_path_in Other = None

-- it has the texts of the value, if there is one
abbrev pub IsArgument : Argument → Option ValueTree → Type 0
IsArgument a v = (string_of v ≡ string_in a) × (string_or_path_of v ≡ string_or_path_in a)

-- the arguments are the first of the values
abbrev pub AreArguments : List Argument → ValueTrees → Type 0
AreArguments [] xs = Unit {0}
AreArguments (a ∷ ns) NoValues = ⊥
AreArguments (a ∷ ns) (MoreValues x xs) = IsArgument a (Some x) × AreArguments ns xs

-- those that are noted are the first values of the message's body
abbrev pub AreNoted : ViewState → List Argument → Type 0
AreNoted v ns = (order : Order) (m : MessageTree) → Views v order m → AreArguments ns m.body
