use Rattle.std.proofs.Common.{ap, not, refl}
use Rattle.dbus_call_lines.specs.Keeping.{ended}
use Rattle.dbus_call_lines.specs.Outcomes.{outcome_seen}
use Rattle.dbus_call_members.specs.Summing.{is_short}
use Rattle.dbus_call_members.proofs.Added.{added, left_out}
use Rattle.dbus_call_members.proofs.adding.MemberSumsCallSink.add.Goals as goal

pub returns-in-Ok : goal.returns-in-Ok
returns-in-Ok c = added _ _ (ended c.args._form c.args.place c.args.text.now (outcome_seen c.args.outcome)) c.in-Ok.ensures.adds c.count.ensures.short

pub returns-in-Err : goal.returns-in-Err
unfolding is_short
returns-in-Err c = left_out _ _ _ refl

pub returns-else-self : goal.returns-else-self
unfolding is_short
returns-else-self c = left_out _ _ _ (ap not c.if-self.false)
