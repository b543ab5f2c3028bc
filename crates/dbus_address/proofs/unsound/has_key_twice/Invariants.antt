use Rattle.std.proofs.Common.{◌≡◌, length}
use Rattle.dbus_address.specs.Flaws.{has_key_twice}
use Rattle.dbus_address.specs.Views.{pairs_of}
use Rattle.dbus_address.proofs.unsound.has_key_twice.Given as goal

abbrev pub invariant-loop-pair : goal.invariant-loop-pair
invariant-loop-pair l = has_key_twice (pairs_of l.left) ≡ has_key_twice (pairs_of l.fn.pairs)

abbrev pub decreases-loop-pair : goal.decreases-loop-pair
decreases-loop-pair l = length (pairs_of l.left)
