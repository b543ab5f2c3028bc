use Rattle.std.proofs.Common.{[], ap, length, arith}
use Rattle.dbus_match.proofs.Noted.{none_noted, one_noted, all_noted}
use Rattle.dbus_match.proofs.argument.arguments_of.Goals as goal

pub loop-number-init : goal.loop-number-init
loop-number-init c =
    record {
      count = ap length c.new-arguments.ensures;
      noted = λ order m v. none_noted m.body c.new-arguments.result.items c.body-left.result c.new-arguments.ensures (c.body-left.ensures.left order m v);
    }

pub push-requires : goal.push-requires
push-requires c = omega (arith, c.loop-number.invariant.count, c.loop-number-test.true)

pub loop-number-preserved : goal.loop-number-preserved
loop-number-preserved c =
    let l = c.loop-number in
    record {
      count = omega (arith, l.invariant.count, c.push.ensures.len);
      noted = λ order m v.
          let p = l.invariant.noted order m v in
          let f = c.in-Some.ensures.steps.first p.us [] p.stand in
          one_noted m.body l.arguments.items l.left p c.argument_of.result f.0 f.1 c.push.new.self.items c.next.new.self f.2 (c.argument_of.ensures f.0 f.3) f.4 c.push.ensures.items;
    }

pub returns-in-None : goal.returns-in-None
returns-in-None c = λ order m v. all_noted m.body c.loop-number.arguments.items c.loop-number.left (c.loop-number.invariant.noted order m v)

pub returns : goal.returns
returns c = λ order m v. all_noted m.body c.loop-number.arguments.items c.loop-number.left (c.loop-number.invariant.noted order m v)
