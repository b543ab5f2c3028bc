-- A checker of values that may go on.
use Rattle.dbus_value_checker.specs.declared.values.ValueChecker.{ValueChecker}
use Rattle.dbus_value_checker.specs.Denotations.{Answer, Denotes}

-- its fields stand for some answer
abbrev pub IsUnderWay : ValueChecker → Type 0
IsUnderWay x = (answer : Answer) × Denotes x answer
