use Rattle.std.proofs.Common.{refl}
use Rattle.dbus_value_model.specs.Values.{ArrayValue}
use Rattle.dbus_unmarshal.specs.BuildLaws.{part_formed}
use Rattle.dbus_unmarshal.proofs.Gathering.{elements_opened}
use Rattle.dbus_unmarshal.proofs.opening.open_elements.Goals as goal

pub returns : goal.returns
returns g c = λ u xs no_byte v done us next.
    elements_opened u xs c.in_ok-item.item c.in_ok-values.values.items (c.in_ok-item.ensures v (ArrayValue u xs) done us u next refl) c.in_ok-values.ensures.items no_byte (part_formed v done us (ArrayValue u xs) next.formed next.has)
