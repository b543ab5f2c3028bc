-- In which form a message that is refused is explained.
use Rattle.std.specs.Prelude.{ℕ, List}
use Rattle.dbus_explain.specs.Explained.{IsExplained}
use Rattle.dbus_explain.specs.Members.{AreMembersOf}
use Rattle.dbus_explain.specs.declared.message.Refused.{Refused}
use Rattle.cli_report.specs.declared.telling.Form.{Form}
use Rattle.cli_report.specs.declared.telling.Form.TheVariants.{Lines, Members}

-- as lines, or as members of an object of JSON
abbrev pub IsExplainedIn : Form → Refused → List ℕ → Type 0
IsExplainedIn Lines = IsExplained
IsExplainedIn Members = AreMembersOf
