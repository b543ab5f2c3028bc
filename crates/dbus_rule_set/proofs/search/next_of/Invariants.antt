use Rattle.std.proofs.Common.{take}
use Rattle.dbus_rule_set.specs.Places.{IsNext}
use Rattle.dbus_rule_set.proofs.search.next_of.Given as goal

-- the next of those so far
abbrev pub invariant-loop-hash : goal.invariant-loop-hash
invariant-loop-hash l = IsNext l.from l.next (take l.hash-index l.hashes)
