use Rattle.dbus_unmarshal.proofs.Gathering.{fields_built, only_fields}
use Rattle.dbus_unmarshal.proofs.placing.fields_of.Goals as goal

pub returns : goal.returns
returns g c = λ vs xs h. fields_built c.args.held vs xs c.in-Fields.field-0 c.in-Fields.values c.in-Fields.is h

pub unreachable-requires : goal.unreachable-requires
unreachable-requires g c = only_fields c.args.held c.requires.0 c.requires.1 c.requires.2 c.in_default.not-Fields
