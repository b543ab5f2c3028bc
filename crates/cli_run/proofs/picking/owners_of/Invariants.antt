use Rattle.std.proofs.Common.{◌≡◌, take}
use Rattle.std.specs.FinSet.{from_list}
use Rattle.dbus_match.specs.Matching.{ownerships}
use Rattle.cli_run.proofs.picking.owners_of.Given as goal

-- those so far
abbrev pub invariant-loop-owner : goal.invariant-loop-owner
invariant-loop-owner l = l.all ≡ from_list (ownerships (take l.owner-index l.owners))
