use Rattle.std.proofs.Common.{refl, sym}
use Rattle.dbus_json_reader.proofs.KnownNames.{no_field, some_field}
use Rattle.dbus_json_reader.proofs.names.is_field.Goals as goal

pub returns-in-Some : goal.returns-in-Some
returns-in-Some c = sym (some_field c.args.name.now c.in-Some.field-0 c.in-Some.ensures.some.0 c.in-Some.ensures.some.1)

pub returns-in-None : goal.returns-in-None
returns-in-None c = sym (no_field c.args.name.now (c.in-None.ensures.none refl))
