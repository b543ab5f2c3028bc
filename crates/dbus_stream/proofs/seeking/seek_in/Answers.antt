use Rattle.dbus_stream.proofs.SeekSteps.{found_inside, seeks_resumed}
use Rattle.dbus_stream.proofs.seeking.seek_in.Goals as goal

pub returns-then-by_size-clause-seeks : goal.returns-then-by_size-clause-seeks
returns-then-by_size-clause-seeks c = seeks_resumed c.args.limits c.args.window c.args.effort c.args.bytes.now c.resumed.result c.args.by_size c.if-by_size.true c.resumed.ensures.resumes

pub returns-else-by_size-clause-inside : goal.returns-else-by_size-clause-inside
returns-else-by_size-clause-inside c = λ offset is. found_inside c.args.limits c.args.bytes.now c.first_message.result.found c.first_message.ensures.finds offset is
