use Rattle.std.proofs.Common.{subst}
use Rattle.dbus_values.specs.Seen.{IsSeen}
use Rattle.dbus_values.specs.declared.view.ValueView.{ValueView}
use Rattle.dbus_typed.proofs.Nexts.{struct_typed}
use Rattle.dbus_typed.proofs.structs.fields_as.Goals as goal

pub returns-in-Struct : goal.returns-in-Struct
returns-in-Struct g c = record {
  read = λ v seen.
      let s = subst (λ (view : ValueView). IsSeen view v) c.in-Struct.is seen in
      struct_typed g.T.FromValues.stand_for g.T.FromValues.trees c.from_values.result v s.0 s.2 (c.from_values.ensures.read s.0 s.1 s.3);
}
