use Rattle.std.proofs.Common.{◌≡◌, ◌≤◌, ◌++◌, map, length, drop}
use Rattle.dbus_auth_lines.specs.Lines.{words}
use Rattle.dbus_auth_lines.proofs.reading.all_words.Given as goal

abbrev pub invariant-loop-word : goal.invariant-loop-word
invariant-loop-word g l = record { is : map (λ w. w.items) l.found.items ++ words (drop l.from l.text) ≡ words l.fn.text; within : l.from ≤ length l.text }

abbrev pub decreases-loop-word : goal.decreases-loop-word
decreases-loop-word g l = length (words (drop l.from l.text))
