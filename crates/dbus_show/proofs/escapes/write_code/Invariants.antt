use Rattle.std.proofs.Common.{◌≡◌, ◌++◌, ℕ, List, encode_utf8_all}
use Rattle.std.specs.Char.Iter.{escape_rest}
use Rattle.std.specs.Char.Escape.{escape_unicode}
use Rattle.dbus_show.proofs.escapes.write_code.Given as goal

-- what is written and what is left give the whole
abbrev pub invariant-loop-part : goal.invariant-loop-part
invariant-loop-part g l = (done : List ℕ) × g.D.Draft.gains l.fn.draft done l.draft × (done ++ encode_utf8_all (escape_rest l.part-iterator) ≡ encode_utf8_all (escape_unicode l.fn.character))
