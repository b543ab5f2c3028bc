use Rattle.std.proofs.Common.{◌≡◌, ◌++◌, length, ◌+◌, ◌*◌, ◌≤◌}
use Rattle.dbus_texts.specs.Types.{sigs}
use Rattle.dbus_types.specs.SigTypes.{type_trees_of}
use Rattle.dbus_types.specs.Parses.{StartsFields}
use Rattle.dbus_types.proofs.parse.+parse.Given as goal

abbrev pub decreases-parse_fields : goal.decreases-parse_fields
decreases-parse_fields g l = 2 * length l.bytes.now + 1

abbrev pub decreases-parse_type : goal.decreases-parse_type
decreases-parse_type g l = 2 * length l.bytes.now

abbrev pub invariant-parse_fields-loop-rest : goal.invariant-parse_fields-loop-rest
invariant-parse_fields-loop-rest g l =
    record {
      starts : StartsFields l.rest;
      spelled : l.bytes ≡ sigs (type_trees_of l.types.items) ++ l.rest;
      shorter : length l.rest ≤ length l.bytes;
    }

abbrev pub decreases-parse_fields-loop-rest : goal.decreases-parse_fields-loop-rest
decreases-parse_fields-loop-rest g l = length l.rest
