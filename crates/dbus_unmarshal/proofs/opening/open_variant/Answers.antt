use Rattle.dbus_unmarshal.proofs.Gathering.{variant_opened}
use Rattle.dbus_types.specs.SigTypes.{type_tree}
use Rattle.dbus_unmarshal.proofs.opening.open_variant.Goals as goal

pub returns : goal.returns
returns g c = λ v is text. variant_opened v is (type_tree c.in_ok-spelled_type.field-0) c.args.types.now text c.in_ok-spelled_type.ensures
