use Rattle.dbus_types.proofs.Parsing.{one_text}
use Rattle.dbus_types.proofs.parse.spelled_type.Goals as goal

pub returns : goal.returns
returns g c = one_text c.args.text.now c.in_ok-ty.ty c.in_ok-ty.field-0-1.now c.requires c.in_ok-ty.ensures
