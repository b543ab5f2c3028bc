use Rattle.dbus_unmarshal.proofs.Gathering.{push_full}
use Rattle.dbus_unmarshal.proofs.placing.place.Goals as goal

pub returns-in_default : goal.returns-in_default
returns-in_default g c = push_full c.args.gathered.now c.args.made c.in_default.not-Variant c.in_default.not-Entry c.in_default.not-Key c.in_default.not-Fields c.in_default.not-Elements
