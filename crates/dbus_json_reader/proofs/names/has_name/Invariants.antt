use Rattle.std.proofs.Common.{◌≡◌, drop}
use Rattle.dbus_json_reader.specs.JsonMessages.{is_among}
use Rattle.dbus_json_reader.proofs.MemberNames.{names_of}
use Rattle.dbus_json_reader.proofs.names.has_name.Given as goal

abbrev pub invariant-loop-member : goal.invariant-loop-member
invariant-loop-member g l = is_among (names_of (drop l.member-index l.members)) l.name ≡ is_among (names_of l.members) l.name
