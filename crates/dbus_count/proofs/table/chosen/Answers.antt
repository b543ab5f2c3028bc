use Rattle.std.proofs.Common.{rules, tests, nat_eq}
use Rattle.std.specs.List.{starts_with}
use Rattle.std.specs.Map.Iter.{deref_pair, TakesFirst}
use Rattle.std.proofs.lemmas.Iterator.Consumers.{YieldsList-from_filter, YieldsList-from_rest, map_from_collect}
use Rattle.dbus_count.specs.NameOrder.{bytes_of}
use Rattle.dbus_count.proofs.table.chosen.Goals as goal

pub returns : goal.returns
returns c =
    map_from_collect {v = deref_pair} {s = c.filter.result} _ c.collect.ensures.ran
    (YieldsList-from_filter {steps = TakesFirst deref_pair} {v = deref_pair} {s = c.filter.result} _ (λ e. starts_with nat_eq (bytes_of e.0) c.args.word.now)
    (YieldsList-from_rest {shows = deref_pair} c.args.counts.now.names.entries cc) c.filter.ensures.closure (λ x b q k. search (rules, tests)))
