use Rattle.std.proofs.Common.{◌≡◌, map, drop}
use Rattle.std.specs.List.{list_all}
use Rattle.dbus_auth_lines.specs.WrittenLines.{is_word}
use Rattle.dbus_auth_lines.proofs.writing.are_words.Given as goal

abbrev pub invariant-loop-word : goal.invariant-loop-word
invariant-loop-word g l = list_all is_word (map (λ w. w.items) (drop l.word-index l.words)) ≡ list_all is_word (map (λ w. w.items) l.words)
