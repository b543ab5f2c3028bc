use Rattle.std.proofs.Common.{Some, None, refl}
use Rattle.std.proofs.lemmas.Bool.{false≢true}
use Rattle.dbus_value_model.specs.ValueViews.{value_trees_of}
use Rattle.dbus_value_model.proofs.Indexes.{any_all_below, none_past, past_here, past_later, past_end}
use Rattle.dbus_value_model.proofs.fd_indexes.first_past.Goals as goal

pub returns-in-None : goal.returns-in-None
returns-in-None g c = rw c.in-None.is (none_past None 0 (value_trees_of c.args.values.now) (any_all_below (value_trees_of c.args.values.now)))

pub returns-then-not-is_below : goal.returns-then-not-is_below
returns-then-not-is_below g c =
    rw c.in-Some.is (c.loop-i.invariant _ (past_here (Some c.in-Some.limit) c.args.values.now c.loop-i.i c.index-values-i.result c.loop-i.i c.loop-i-test.true c.index-values-i.is (λ p. false≢true (c.if-not-is_below.ensures.1 p))))

pub loop-i-preserved : goal.loop-i-preserved
loop-i-preserved g c =
    λ r w. c.loop-i.invariant r (past_later (Some c.in-Some.limit) c.args.values.now c.loop-i.i c.index-values-i.result c.loop-i.i r c.loop-i-test.true c.index-values-i.is (c.if-not-is_below.ensures.0 refl) w)

pub returns : goal.returns
returns g c = rw c.in-Some.is (c.loop-i.invariant None (past_end (Some c.in-Some.limit) c.args.values.now c.loop-i.i c.loop-i.i c.loop-i-test.false))
