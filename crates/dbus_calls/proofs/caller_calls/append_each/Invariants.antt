use Rattle.std.proofs.Common.{◌≡◌, ◌++◌, map}
use Rattle.std.specs.Map.{values_of}
use Rattle.std.specs.Map.Iter.{deref_pair}
use Rattle.dbus_calls.proofs.caller_calls.append_each.Given as goal

abbrev pub invariant-loop-call : goal.invariant-loop-call
invariant-loop-call g l = map (λ call. call.now) l.others.items ≡ map (λ call. call.now) l.initial.others.items ++ values_of (map deref_pair l.yielded)
