use Rattle.std.proofs.Common.{◌-◌}
use Rattle.dbus_value_model.specs.Forming.{NestWithin}
use Rattle.dbus_build.specs.BuildFaults.{HoldsSound, HoldTypedNumbers}
use Rattle.dbus_message_model.proofs.FieldLists.{structs}
use Rattle.dbus_build.proofs.Finding.{IsOn}
use Rattle.dbus_build.proofs.faulty_fields.first_unsound_field.Given as goal

abbrev pub invariant-loop-field : goal.invariant-loop-field
invariant-loop-field g l =
    IsOn HoldsSound (λ n f. f.code) (λ fs. NestWithin (l.depth_left - 1) (structs fs)) HoldTypedNumbers l.fields l.field-index l.first
