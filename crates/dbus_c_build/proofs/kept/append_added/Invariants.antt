use Rattle.std.proofs.Common.{◌≡◌, List, take}
use Rattle.std.specs.List.{flat_map}
use Rattle.dbus_message_model.specs.Messages.{FieldTree}
use Rattle.dbus_c_build.specs.Drafts.{AreKept, added, known_codes}
use Rattle.dbus_c_build.specs.Building.{with_fields}
use Rattle.dbus_c_build.proofs.kept.append_added.Given as goal

abbrev pub invariant-loop-before : goal.invariant-loop-before
invariant-loop-before g l = (fs : List FieldTree) → AreKept l.given l.parts.order fs → l.out.items ≡ with_fields l.parts.order (flat_map (added l.parts fs) (take l.before known_codes)) l.fn.out.items
