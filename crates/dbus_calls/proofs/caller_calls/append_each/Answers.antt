use Rattle.std.proofs.Common.{rules, map, ◌≡◌, ◌++◌, ap, ◌∙◌}
use Rattle.std.proofs.lemmas.Map.Iter.{iter_end}
use Rattle.std.specs.Map.{values_of}
use Rattle.std.specs.Map.Iter.{deref_pair}
use Rattle.dbus_calls.proofs.caller_calls.append_each.Goals as goal

pub returns-clause-appended : goal.returns-clause-appended
returns-clause-appended g c =
    let e : map deref_pair c.loop-call.yielded ≡ c.args.calls.now.entries = search (rules, iter_end) in
    c.loop-call.invariant ∙ ap (λ l. map (λ call. call.now) c.args.others.now.items ++ values_of l) e

pub returns-clause-ordered : goal.returns-clause-ordered
returns-clause-ordered g c = c.into_iter-call-iterator.ensures.into_iter_gives.5

pub returns-clause-found : goal.returns-clause-found
returns-clause-found g c = c.into_iter-call-iterator.ensures.into_iter_gives.6
