use Rattle.std.specs.Map.Iter.{deref_pair}
use Rattle.std.proofs.lemmas.Iterator.Consumers.{YieldsList-from_rest, map_from_collect}
use Rattle.dbus_call_members.proofs.table.entries.Goals as goal

pub returns : goal.returns
returns c = map_from_collect {v = deref_pair} {s = c.iter.result} _ c.collect.ensures.ran (YieldsList-from_rest {shows = deref_pair} c.args.sums.now.members.entries cc)
