use Rattle.std.proofs.Common.{drop, map}
use Rattle.std.specs.Prelude.{◌↔◌}
use Rattle.std.specs.List.{AllByRecursion}
use Rattle.dbus_address.specs.Written.{IsPair}
use Rattle.dbus_address.specs.WrittenViews.{pair_parts}
use Rattle.dbus_address.proofs.writing.are_pairs.Given as goal

abbrev pub invariant-loop-pair : goal.invariant-loop-pair
invariant-loop-pair l = AllByRecursion IsPair (map pair_parts l.pairs) ↔ AllByRecursion IsPair (map pair_parts (drop l.pair-index l.pairs))
