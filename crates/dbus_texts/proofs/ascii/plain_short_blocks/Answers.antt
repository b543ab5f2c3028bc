use Rattle.std.proofs.Common.{sym, subst, arith, take-add}
use Rattle.std.specs.List.{AllByRecursion}
use Rattle.std.specs.Int.{IsInRange}
use Rattle.dbus_texts.proofs.WordBlocks.{plain_append}
use Rattle.dbus_texts.proofs.ascii.plain_short_blocks.Goals as goal

pub loop-at-preserved : goal.loop-at-preserved
loop-at-preserved c =
    record {
      within = omega arith;
      plain = subst (λ w. AllByRecursion (IsInRange 1 127) w) (sym (take-add c.loop-at.at 16 c.args.text.now)) (plain_append _ _ c.loop-at.invariant.plain (c.is_plain_short.ensures c.if-not-is_plain_short.false));
    }
