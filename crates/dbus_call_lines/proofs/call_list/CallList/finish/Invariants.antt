use Rattle.std.proofs.Common.{◌≡◌, map}
use Rattle.std.specs.List.{AllByRecursion}
use Rattle.std.specs.Map.Iter.{deref_pair}
use Rattle.dbus_call_lines.proofs.Finishing.{IsMap, values_in}
use Rattle.dbus_call_lines.proofs.call_list.CallList.finish.Given as goal

abbrev pub invariant-loop-calls : goal.invariant-loop-calls
invariant-loop-calls g l = record {
  collected : map (λ call. call.now) l.rows.items ≡ values_in (map deref_pair l.yielded);
  maps : AllByRecursion IsMap (map deref_pair l.yielded);
}
