use Rattle.std.proofs.Common.{◌-◌, length, arith}
use Rattle.dbus_texts.proofs.LinkedBlocks.{links_turn, links_last}
use Rattle.dbus_texts.proofs.name_blocks.is_linked.Goals as goal

pub loop-at-init : goal.loop-at-init
loop-at-init c = record { within = c.requires; linked = λ i from to. absurd (omega arith) }

pub loop-at-preserved : goal.loop-at-preserved
loop-at-preserved c =
    record {
      within = omega arith;
      linked = links_turn c.args.separator c.args.letters c.args.bytes.now c.args.start c.loop-at.at c.loop-at.invariant.linked (c.are_linked.ensures c.if-not-are_linked.false);
    }

pub returns : goal.returns
returns c = λ h. links_last c.args.separator c.args.letters c.args.bytes.now c.args.start c.loop-at.at (length c.args.bytes.now - 17) (omega arith) (omega arith) c.loop-at.invariant.linked (c.are_linked-2.ensures h)
