-- The lines that explain why a line is refused: a part of the line, with a mark below the place, and
-- the rule that is broken there.
use Rattle.std.specs.Prelude.{ℕ, ◌-◌, Bool, List, [], ◌++◌, codes, drop, length, take, if◌then◌else◌}
use Rattle.std.specs.Str.Lossy.{utf8_lossy}
use Rattle.dbus_explain.specs.Explained.{marked_lines}
use Rattle.cli_encode.specs.Rules.{line_rule_text}
use Rattle.cli_encode.specs.declared.reason.LineReason.{LineReason}
use Rattle.cli_encode.specs.declared.reason.LineReason.TheVariants.{TooLong, Unspelled}
use Rattle.cli_encode.specs.declared.reason.Refusal.{Refusal}

-- at most the last 40 bytes before a place, and the first 36 from there on, as text, with U+FFFD for
-- what is no UTF-8
abbrev pub before : (line : List ℕ) → (at : ℕ) → List ℕ
before line at = let front = take at line in utf8_lossy (drop (length front - 40) front)

abbrev pub there : (line : List ℕ) → (at : ℕ) → List ℕ
there line at = utf8_lossy (take 36 (drop at line))

-- none is shown of a line that is too long, which is not kept
abbrev pub part_lines : LineReason → (before there : List ℕ) → List ℕ
part_lines TooLong before there = []
part_lines (Unspelled why) before there = marked_lines before there

abbrev pub lines_of : LineReason → (before there : List ℕ) → List ℕ
lines_of reason before there = part_lines reason before there ++ (codes "  " ++ (line_rule_text reason ++ codes "\n"))

-- what explains it, if that is wanted
abbrev pub explanation : (explains : Bool) → (line : List ℕ) → Refusal → List ℕ
explanation explains line why = if explains then lines_of why.reason (before line why.at) (there line why.at) else []
