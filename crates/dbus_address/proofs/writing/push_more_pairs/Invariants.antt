use Rattle.std.proofs.Common.{◌≡◌, ℕ, List, ◌++◌, map, drop}
use Rattle.dbus_address.specs.Addresses.{more_pairs_then}
use Rattle.dbus_address.specs.Written.{written_pair}
use Rattle.dbus_address.specs.WrittenViews.{pair_parts}
use Rattle.dbus_address.proofs.writing.push_more_pairs.Given as goal

abbrev pub invariant-loop-i : goal.invariant-loop-i
invariant-loop-i g l = (r : List ℕ) → l.text.items ++ more_pairs_then (map written_pair (map pair_parts (drop l.i l.pairs))) r ≡ l.fn.text.items ++ more_pairs_then (map written_pair (map pair_parts l.fn.pairs)) r
