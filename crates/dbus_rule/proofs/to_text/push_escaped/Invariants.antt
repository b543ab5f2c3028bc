use Rattle.std.proofs.Common.{◌≡◌, ◌++◌, string_bytes, length}
use denote.Text.{Utf8}
use denote.Shadow.{shadow}
use Rattle.dbus_rule.specs.Rules.{quote_escaped}
use Rattle.dbus_rule.proofs.to_text.push_escaped.Given as goal

-- what stands there and what is left give the whole
abbrev pub invariant-loop-run : goal.invariant-loop-run
invariant-loop-run g l = shadow (Utf8 l.rest) × (string_bytes l.text ++ quote_escaped l.rest ≡ string_bytes l.fn.text ++ quote_escaped l.fn.value)

abbrev pub decreases-loop-run : goal.decreases-loop-run
decreases-loop-run g l = length l.rest
