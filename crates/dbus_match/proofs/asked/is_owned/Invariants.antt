use Rattle.std.proofs.Common.{drop}
use Rattle.dbus_match.specs.Matching.{IsOwned, ownerships}
use Rattle.dbus_match.proofs.asked.is_owned.Given as goal

-- if any owner fits, then one of those left
abbrev pub invariant-loop-owner : goal.invariant-loop-owner
invariant-loop-owner g l = IsOwned (ownerships l.owners) l.name l.unique → IsOwned (ownerships (drop l.owner-index l.owners)) l.name l.unique
