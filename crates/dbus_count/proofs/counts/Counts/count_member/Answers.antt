use Rattle.std.proofs.Common.{refl}
use Rattle.dbus_count.specs.Counting.{counting_of}
use Rattle.dbus_count.proofs.NameSteps.{no_member, on_any, on_err}
use Rattle.dbus_count.proofs.counts.Counts.count_member.Goals as goal

pub returns-in_err-push_str-clause-failed : goal.returns-in_err-push_str-clause-failed
unfolding counting_of
returns-in_err-push_str-clause-failed c = on_any c.from_residual.result (no_member _ _ _ _ _ _ c.in-Some.is (λ q. refl))

pub returns-in_err-push_str-2-clause-failed : goal.returns-in_err-push_str-2-clause-failed
unfolding counting_of
returns-in_err-push_str-2-clause-failed c = on_any c.from_residual-in_err-push_str-2.result (no_member _ _ _ _ _ _ c.in-Some.is (λ q. refl))

pub returns-in_err-push_str-3-clause-failed : goal.returns-in_err-push_str-3-clause-failed
unfolding counting_of
returns-in_err-push_str-3-clause-failed c = on_any c.from_residual-in_err-push_str-3.result (no_member _ _ _ _ _ _ c.in-Some.is (λ q. refl))

pub returns-in_err-push_str-4-clause-failed : goal.returns-in_err-push_str-4-clause-failed
unfolding counting_of
returns-in_err-push_str-4-clause-failed c = on_any c.from_residual-in_err-push_str-4.result (no_member _ _ _ _ _ _ c.in-Some.is (λ q. refl))

pub returns-clause-failed : goal.returns-clause-failed
unfolding counting_of
returns-clause-failed c = on_err c.count_spare.result (λ same. no_member _ _ _ _ _ _ c.in-Some.is same) c.count_spare.ensures.failed
