use Rattle.dbus_unmarshal.proofs.Gathering.{value_built, only_held}
use Rattle.dbus_unmarshal.proofs.placing.held_value.Goals as goal

pub returns : goal.returns
returns g c = λ v h. value_built c.args.held v c.in-Held.value c.in-Held.is h

pub unreachable-requires : goal.unreachable-requires
unreachable-requires g c = only_held c.args.held c.requires.0 c.requires.1 c.in_default.not-Held
