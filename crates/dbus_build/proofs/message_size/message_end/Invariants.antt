use Rattle.std.proofs.Common.{ℕ, Option, drop}
use Rattle.dbus_value_model.specs.SizeLimits.{IsCapped, AreMeasured}
use Rattle.dbus_value_model.specs.Sizes.{HaveShortSignatures}
use Rattle.dbus_message_model.proofs.FieldLists.{structs}
use Rattle.dbus_build.proofs.message_size.message_end.Given as goal

abbrev pub invariant-loop-field : goal.invariant-loop-field
invariant-loop-field g l = record {
  low : IsCapped l.at;
  signed : HaveShortSignatures (structs (drop l.field-index l.parts.fields.items));
  so_far : (r : Option ℕ) → AreMeasured l.limits.array (structs (drop l.field-index l.parts.fields.items)) l.at r
      → AreMeasured l.limits.array (structs l.parts.fields.items) 0 r;
}
