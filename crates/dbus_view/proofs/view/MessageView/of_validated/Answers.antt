use Rattle.std.proofs.Common.{refl}
use Rattle.dbus_view.proofs.Whole.{all_whole}
use Rattle.dbus_view.proofs.view.MessageView.of_validated.Goals as goal

pub returns : goal.returns
returns c = record { viewed = (refl, refl, (c.args.validated.order, c.requires.validated.message, all_whole c.args.limits c.args.bytes.now c.args.validated (record { validated = c.requires.validated; all = c.requires.all }))) }
