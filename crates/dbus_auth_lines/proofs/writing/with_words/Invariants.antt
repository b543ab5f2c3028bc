use Rattle.std.proofs.Common.{◌≡◌, ◌++◌, map, drop}
use Rattle.std.specs.List.{flat_map}
use Rattle.dbus_auth_lines.specs.Lines.{spaced}
use Rattle.dbus_auth_lines.proofs.writing.with_words.Given as goal

abbrev pub invariant-loop-word : goal.invariant-loop-word
invariant-loop-word g l = l.text.items ++ flat_map spaced (map (λ w. w.items) (drop l.word-index l.words)) ≡ l.initial.text.items ++ flat_map spaced (map (λ w. w.items) l.words)
