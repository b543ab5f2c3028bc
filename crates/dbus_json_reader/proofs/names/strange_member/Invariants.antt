use Rattle.std.proofs.Common.{take}
use Rattle.json.specs.Value.{members_view}
use Rattle.dbus_json_reader.specs.JsonNames.{AreNamed, names_for}
use Rattle.dbus_json_reader.proofs.names.strange_member.Given as goal

abbrev pub invariant-loop-i : goal.invariant-loop-i
invariant-loop-i g l = AreNamed (names_for l.names) (members_view (take l.i l.members))
