use Rattle.std.proofs.Common.{◌≡◌, ◌++◌, ℕ, List, length}
use denote.Text.{Utf8}
use denote.Shadow.{shadow}
use Rattle.dbus_show.specs.Escapes.{escaped}
use Rattle.dbus_show.proofs.quoted.write_escaped.Given as goal

-- what is written and what is left give the whole
abbrev pub invariant-loop-plain : goal.invariant-loop-plain
invariant-loop-plain g l = shadow (Utf8 l.rest) × ((done : List ℕ) × g.D.Draft.gains l.fn.draft done l.draft × (done ++ escaped l.escapes l.rest ≡ escaped l.escapes l.fn.text))

abbrev pub decreases-loop-plain : goal.decreases-loop-plain
decreases-loop-plain g l = length l.rest
