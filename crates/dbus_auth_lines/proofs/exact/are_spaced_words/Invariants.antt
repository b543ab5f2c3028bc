use Rattle.std.proofs.Common.{◌≡◌, ◌≤◌, ◌&&◌, length, drop}
use Rattle.std.specs.Prelude.{bytes_eq}
use Rattle.std.specs.List.{flat_map, list_all}
use Rattle.dbus_auth_lines.specs.Lines.{spaced, words}
use Rattle.dbus_auth_lines.specs.WrittenLines.{is_word}
use Rattle.dbus_auth_lines.proofs.exact.are_spaced_words.Given as goal

abbrev pub invariant-loop-place : goal.invariant-loop-place
invariant-loop-place l = record {
  is : (list_all is_word (words (drop l.from l.text)) && bytes_eq l.rest (flat_map spaced (words (drop l.from l.text)))) ≡ (list_all is_word (words l.fn.text) && bytes_eq l.fn.bytes (flat_map spaced (words l.fn.text)));
  within : l.from ≤ length l.text;
}

abbrev pub decreases-loop-place : goal.decreases-loop-place
decreases-loop-place l = length (words (drop l.from l.text))
