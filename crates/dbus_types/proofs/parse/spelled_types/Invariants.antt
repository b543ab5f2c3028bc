use Rattle.std.proofs.Common.{◌≡◌, ◌++◌, length}
use Rattle.dbus_texts.specs.Types.{sigs}
use Rattle.dbus_types.specs.SigTypes.{type_trees_of}
use Rattle.dbus_types.specs.Parses.{IsTextOfTypes}
use Rattle.dbus_types.proofs.parse.spelled_types.Given as goal

abbrev pub invariant-loop-rest : goal.invariant-loop-rest
invariant-loop-rest g l =
    record {
      left : IsTextOfTypes l.rest;
      spelled : l.text ≡ sigs (type_trees_of l.types.items) ++ l.rest;
    }

abbrev pub decreases-loop-rest : goal.decreases-loop-rest
decreases-loop-rest g l = length l.rest
