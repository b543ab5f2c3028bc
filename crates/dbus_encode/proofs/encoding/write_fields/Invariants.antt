use Rattle.std.proofs.Common.{◌≡◌, ◌≤◌, drop, length, take}
use Rattle.dbus_value_model.specs.SizeLimits.{with_values}
use Rattle.dbus_value_model.specs.Sizes.{HaveShortSignatures}
use Rattle.dbus_message_model.proofs.FieldLists.{structs}
use Rattle.dbus_encode.proofs.encoding.write_fields.Given as goal

abbrev pub invariant-loop-field : goal.invariant-loop-field
invariant-loop-field g l = record {
  left : with_values l.order (structs (drop l.field-index l.fields)) (take l.place l.out) ≡ with_values l.order (structs l.fields) (take l.at l.fn.out);
  within : l.place ≤ length l.out;
  signed : HaveShortSignatures (structs (drop l.field-index l.fields));
}
