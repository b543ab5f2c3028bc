use Rattle.dbus_call_lines.specs.Keeping.{Keeps}
use Rattle.dbus_call_lines.proofs.call_list.CallList.stray_replies.Goals as goal

pub returns : goal.returns
unfolding Keeps
returns c = λ texts wanted before keeps. keeps.2
