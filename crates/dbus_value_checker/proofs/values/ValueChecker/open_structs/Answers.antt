use Rattle.std.proofs.Common.{arith}
use Rattle.dbus_value_checker.proofs.values.ValueChecker.open_structs.Goals as goal

pub loop-self-preserved : goal.loop-self-preserved
loop-self-preserved c =
    let v = c.loop-self.invariant in let opens = c.in_ok-open_struct.ensures.opens in let p = c.in-Some.ensures in
    let before = c.in_ok-open_struct.ensures.narrower in
    let here = p.wanted in
    let less = v.less in
    record {
      some = (v.some.0, p.ready v.some.0 (opens v.some.0 v.some.1));
      code = p.code;
      goes = λ answer r. p.ready answer (opens answer (v.goes answer r));
      less = omega arith;
    }
