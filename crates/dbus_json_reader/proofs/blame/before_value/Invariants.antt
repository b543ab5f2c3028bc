use Rattle.std.proofs.Common.{◌≡◌, drop, false}
use Rattle.dbus_json_reader.specs.JsonMessages.{is_among}
use Rattle.dbus_json_reader.proofs.MemberNames.{names_of}
use Rattle.dbus_json_reader.proofs.blame.before_value.Given as goal

abbrev pub invariant-loop-i : goal.invariant-loop-i
invariant-loop-i g l = is_among (names_of (drop l.i l.members)) l.name ≡ false
