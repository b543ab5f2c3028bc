use Rattle.std.proofs.Common.{refl}
use Rattle.dbus_c.proofs.Outcomes.{first_is}
use Rattle.dbus_c.proofs.checking.whole_told.Goals as goal

pub returns : goal.returns
returns c = λ limits order m w. rw (c.from.ensures, first_is limits c.args.bytes.now order m c.args.count w) refl
