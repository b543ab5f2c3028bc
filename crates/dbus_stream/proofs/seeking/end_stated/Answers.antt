use Rattle.dbus_stream.proofs.SeekSteps.{dropped_alone, none_past}
use Rattle.dbus_stream.proofs.seeking.end_stated.Goals as goal

pub returns-in-There-clause-states : goal.returns-in-There-clause-states
returns-in-There-clause-states c = (c.in-There.ensures c.args.bytes.now (dropped_alone c.nothing-message.result c.drop_bytes.new.self c.args.bytes.now c.nothing-message.ensures c.drop_bytes.ensures.dropped)).0

pub returns-in-Unstated-clause-none : goal.returns-in-Unstated-clause-none
returns-in-Unstated-clause-none c = λ _ size s.
    none_past c.args.limits c.args.bytes.now (c.in-Unstated.ensures c.args.bytes.now (dropped_alone c.nothing-message.result c.drop_bytes.new.self c.args.bytes.now c.nothing-message.ensures c.drop_bytes.ensures.dropped)) size s
