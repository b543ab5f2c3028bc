use Rattle.std.proofs.Common.{sym, subst}
use Rattle.std.proofs.lemmas.List.{take_more}
use Rattle.dbus_rule_set.specs.Places.{IsNext}
use Rattle.dbus_rule_set.proofs.search.next_of.Goals as goal

pub loop-hash-init : goal.loop-hash-init
loop-hash-init c = λ h i. absurd i

pub loop-hash-preserved : goal.loop-hash-preserved
loop-hash-preserved c =
    let l = c.loop-hash in
    subst (IsNext c.args.from c.nearer-next.result) (sym (take_more c.args.hashes.now l.hash-index 0 c.loop-hash-test.true)) (c.nearer-next.ensures _ l.invariant)
