use Rattle.std.proofs.Common.{drop}
use Rattle.dbus_match.specs.Matching.{ownerships}
use Rattle.dbus_match.specs.TakenFor.{Shares}
use Rattle.dbus_match.proofs.known_owners.shares.Given as goal

-- if any owner has both, then one of those left
abbrev pub invariant-loop-owner : goal.invariant-loop-owner
invariant-loop-owner g l = Shares (ownerships l.owners) (ownerships l.owners) l.name l.other → Shares (ownerships l.owners) (ownerships (drop l.owner-index l.owners)) l.name l.other
