use Rattle.std.proofs.Common.{◌≡◌, length}
use denote.Text.{Utf8}
use denote.Shadow.{shadow}
use Rattle.dbus_list.specs.Columns.{ends, first_short}
use Rattle.dbus_list.proofs.columns.end_by_dots.Given as goal

abbrev pub invariant-loop-end : goal.invariant-loop-end
invariant-loop-end l = shadow (Utf8 l.rest) × (first_short l.most l.rest (ends l.rest) ≡ first_short l.most l.name (ends l.name))

abbrev pub decreases-loop-end : goal.decreases-loop-end
decreases-loop-end l = length l.rest
