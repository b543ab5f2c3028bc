use Rattle.std.proofs.Common.{◌≡◌}
use Rattle.dbus_address.specs.Flaws.{value_at}
use Rattle.dbus_address.specs.Views.{pairs_of}
use Rattle.dbus_address.proofs.unsound.value_in.Given as goal

abbrev pub invariant-loop-pair : goal.invariant-loop-pair
invariant-loop-pair l = value_at l.key (pairs_of l.pair-iterator) ≡ value_at l.key (pairs_of l.fn.pairs)
