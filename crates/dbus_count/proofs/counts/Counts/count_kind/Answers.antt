use Rattle.std.proofs.Common.{refl}
use Rattle.dbus_count.specs.Counting.{counting_of}
use Rattle.dbus_count.proofs.NameSteps.{none_counted, on_any, on_err}
use Rattle.dbus_count.proofs.counts.Counts.count_kind.Goals as goal

pub returns-in_err-finish-clause-failed : goal.returns-in_err-finish-clause-failed
unfolding counting_of
returns-in_err-finish-clause-failed c = on_any c.from_residual.result (none_counted _ _ _ _ (λ q. refl))

pub returns-clause-failed : goal.returns-clause-failed
unfolding counting_of
returns-clause-failed c = on_err c.count_spare.result (λ same. none_counted _ _ _ _ same) c.count_spare.ensures.failed
