use Rattle.std.proofs.Common.{arith}
use Rattle.dbus_check.proofs.FieldSteps.{only_waits, only_empty, only_other, only_long, only_more, only_there}
use Rattle.dbus_check.proofs.field_fronts.only_text.Goals as goal

pub returns-then-n-gt0-clause-gives : goal.returns-then-n-gt0-clause-gives
returns-then-n-gt0-clause-gives c = only_waits c.args.wanted c.args.n c.args.offset c.args.bytes.now c.front-given.result.now c.front-given.ensures (grind arith) (omega arith)

pub returns-then-is_empty-clause-gives : goal.returns-then-is_empty-clause-gives
returns-then-is_empty-clause-gives c = rw c.refuse.ensures (only_empty c.args.wanted c.args.n c.args.offset c.args.bytes.now c.front-given.result.now c.front-given.ensures (grind arith) (omega arith))

pub returns-then-given-wanted-clause-gives : goal.returns-then-given-wanted-clause-gives
returns-then-given-wanted-clause-gives c = rw c.refuse-then-given-wanted.ensures (only_other c.args.wanted c.args.n c.args.offset c.args.bytes.now c.front-given.result.now c.front-given.ensures (grind arith) c.if-given-wanted.true)

pub returns-then-given-gt1-clause-gives : goal.returns-then-given-gt1-clause-gives
returns-then-given-gt1-clause-gives c = rw c.refuse-then-given-gt1.ensures (only_long c.args.wanted c.args.n c.args.offset c.args.bytes.now c.front-given.result.now c.front-given.ensures (grind arith) c.if-given-wanted.false c.if-given-gt1.true)

pub returns-then-n-gt1-clause-gives : goal.returns-then-n-gt1-clause-gives
returns-then-n-gt1-clause-gives c = only_more c.args.wanted c.args.n c.args.offset c.args.bytes.now c.front-given.result.now c.front-given.ensures (grind arith) c.if-given-wanted.false (omega arith) (omega arith)

pub returns-clause-gives : goal.returns-clause-gives
returns-clause-gives c = only_there c.args.wanted c.args.n c.args.offset c.args.bytes.now c.front-given.result.now c.front-given.ensures (grind arith) c.if-given-wanted.false (omega arith) (omega arith)
