use Rattle.std.proofs.Common.{◌-◌, ◌≤◌, ◌<◌, length}
use Rattle.dbus_texts.proofs.LinkedBlocks.{LinkedTo}
use Rattle.dbus_texts.proofs.name_blocks.is_linked.Given as goal

abbrev pub invariant-loop-at : goal.invariant-loop-at
invariant-loop-at l = record { within : l.at < length l.bytes; linked : LinkedTo l.fn.separator l.fn.letters l.bytes l.fn.start l.at }

abbrev pub decreases-loop-at : goal.decreases-loop-at
decreases-loop-at l = l.last - l.at
