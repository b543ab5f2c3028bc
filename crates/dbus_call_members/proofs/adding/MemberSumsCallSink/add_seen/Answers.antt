use Rattle.std.proofs.Common.{refl}
use Rattle.dbus_call_members.specs.Summing.{is_short}
use Rattle.dbus_call_members.proofs.Added.{left_out}
use Rattle.dbus_call_members.proofs.adding.MemberSumsCallSink.add_seen.Goals as goal

pub returns-in-Err : goal.returns-in-Err
unfolding is_short
returns-in-Err c = λ order m views. left_out _ _ _ refl
