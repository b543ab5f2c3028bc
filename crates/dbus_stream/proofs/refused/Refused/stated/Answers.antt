use Rattle.std.proofs.Common.{arith, sym, ◌∙◌}
use Rattle.dbus_stream.proofs.SizeSteps.{sizes_tell}
use Rattle.dbus_stream.proofs.refused.Refused.stated.Goals as goal

pub returns-then-self-lt16-clause-none : goal.returns-then-self-lt16-clause-none
returns-then-self-lt16-clause-none c = λ _ gone has size s.
    let short = c.if-self-lt16.true in
    let count = has.count in
    let long = s.there in
    omega (arith, short, count, long)

pub returns-clause-none : goal.returns-clause-none
returns-clause-none c = λ none gone has size s. ((sizes_tell c.args.limits gone).1 size s).0 (c.size_by.ensures.none none gone has)
