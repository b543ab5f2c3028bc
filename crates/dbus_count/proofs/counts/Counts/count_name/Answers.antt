use Rattle.std.proofs.Common.{refl}
use Rattle.dbus_count.specs.Counting.{counting_of}
use Rattle.dbus_count.proofs.NameSteps.{none_named, on_any, on_err}
use Rattle.dbus_count.proofs.counts.Counts.count_name.Goals as goal

pub returns-in_err-push_str-clause-failed : goal.returns-in_err-push_str-clause-failed
unfolding counting_of
returns-in_err-push_str-clause-failed c = on_any c.from_residual.result (none_named _ _ _ _ _ _ c.in-Some.is (λ q. refl))

pub returns-in_err-push_str-2-clause-failed : goal.returns-in_err-push_str-2-clause-failed
unfolding counting_of
returns-in_err-push_str-2-clause-failed c = on_any c.from_residual-in_err-push_str-2.result (none_named _ _ _ _ _ _ c.in-Some.is (λ q. refl))

pub returns-clause-failed : goal.returns-clause-failed
unfolding counting_of
returns-clause-failed c = on_err c.count_spare.result (λ same. none_named _ _ _ _ _ _ c.in-Some.is same) c.count_spare.ensures.failed
