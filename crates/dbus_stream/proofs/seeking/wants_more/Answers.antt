use Rattle.dbus_stream.proofs.SeekSteps.{dropped_alone}
use Rattle.dbus_stream.proofs.SizeSteps.{sizes_tell}
use Rattle.dbus_stream.proofs.seeking.wants_more.Goals as goal

pub returns-in-Wanted-clause-wants : goal.returns-in-Wanted-clause-wants
returns-in-Wanted-clause-wants c = λ _. c.in-Wanted.ensures c.args.bytes.now (dropped_alone c.nothing-message.result c.drop_bytes.new.self c.args.bytes.now c.nothing-message.ensures c.drop_bytes.ensures.dropped)

pub returns-in-There-clause-none : goal.returns-in-There-clause-none
returns-in-There-clause-none c = λ _ wants.
    let size = c.in-There.ensures c.args.bytes.now (dropped_alone c.nothing-message.result c.drop_bytes.new.self c.args.bytes.now c.nothing-message.ensures c.drop_bytes.ensures.dropped) in
    ((sizes_tell c.args.limits c.args.bytes.now).1 _ size.0).1 size.1 wants

pub returns-in-Unstated-clause-none : goal.returns-in-Unstated-clause-none
returns-in-Unstated-clause-none c = λ _ wants.
    (sizes_tell c.args.limits c.args.bytes.now).0 (c.in-Unstated.ensures c.args.bytes.now (dropped_alone c.nothing-message.result c.drop_bytes.new.self c.args.bytes.now c.nothing-message.ensures c.drop_bytes.ensures.dropped)) wants
