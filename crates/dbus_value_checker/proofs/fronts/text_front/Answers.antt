use Rattle.dbus_value_model.specs.WantedTexts.{Of}
use Rattle.dbus_value_checker.proofs.FrontSteps.{text_breaks_at, text_waits_at, text_unlike_at, text_more_at, text_there_at}
use Rattle.dbus_value_checker.proofs.fronts.text_front.Goals as goal

pub returns-in-None-clause-gives : goal.returns-in-None-clause-gives
returns-in-None-clause-gives c = text_more_at (Of c.args.kind) c.args.n c.args.offset c.args.bytes.now c.front-given.result.now c.front-given.ensures c.in-None.ensures c.if-given-n.true

pub returns-in-None-2-clause-gives : goal.returns-in-None-2-clause-gives
returns-in-None-2-clause-gives c = text_there_at (Of c.args.kind) c.args.n c.args.offset c.args.bytes.now c.front-given.result.now c.front-given.ensures c.in-None-2.ensures c.if-given-n.false

pub returns-in-Some-clause-gives : goal.returns-in-Some-clause-gives
returns-in-Some-clause-gives c = rw (c.refuse.ensures, ← c.requires.reason) (text_breaks_at (Of c.args.kind) c.args.n c.args.offset c.args.bytes.now c.front-given.result.now c.front-given.ensures c.in-Some.i c.in-Some.ensures.1 c.if-i-given.true)

pub returns-in-Some-2-clause-gives : goal.returns-in-Some-2-clause-gives
returns-in-Some-2-clause-gives c = text_waits_at (Of c.args.kind) c.args.n c.args.offset c.args.bytes.now c.front-given.result.now c.front-given.ensures c.in-Some.i c.in-Some.ensures.1 c.if-i-given.false c.if-given-n-2.true

pub returns-in-Some-3-clause-gives : goal.returns-in-Some-3-clause-gives
returns-in-Some-3-clause-gives c = rw (c.refuse-in-Some-3.ensures, ← c.requires.reason) (text_unlike_at (Of c.args.kind) c.args.n c.args.offset c.args.bytes.now c.front-given.result.now c.front-given.ensures c.in-Some.i c.in-Some.ensures.1 c.if-i-given.false c.if-given-n-2.false c.in-Some.ensures.0)
