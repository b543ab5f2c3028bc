use Rattle.std.proofs.Common.{◌≡◌, ◌+◌, ◌-◌, arith, ℕ, subst, take, drop}
use Rattle.dbus_value_validator.proofs.NumberArrays.{ArePlain, plain_more, plain_last}
use Rattle.dbus_value_validator.proofs.plain.is_plain.Goals as goal

pub loop-at-preserved : goal.loop-at-preserved
loop-at-preserved c =
    record {
      begun = omega arith;
      within = omega arith;
      plain = plain_more c.args.bytes.now c.args.start c.loop-at.at c.loop-at.invariant.begun c.loop-at.invariant.plain 16 (c.is_plain_from.ensures c.if-not-is_plain_from.false);
    }

pub returns : goal.returns
returns c = λ yes.
    let end = c.args.start + c.args.n in
    let long : end - c.args.start ≡ c.args.n = omega arith in
    subst (λ (i : ℕ). ArePlain (take i (drop c.args.start c.args.bytes.now))) long
    (plain_last c.args.bytes.now c.args.start c.loop-at.at c.loop-at.invariant.begun c.loop-at.invariant.plain end (end - 16) c.loop-at.invariant.within c.loop-at-test.false (omega arith) (c.is_plain_from-2.ensures yes))
