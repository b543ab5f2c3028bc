use mathlib.Core.Logic.{∥∥₁_elim}
use Rattle.dbus_value_model.specs.declared.order.Order.TheVariants.{Little}
use Rattle.dbus_message_model.specs.PartsViews.{parts_tree}
use Rattle.dbus_message_model.proofs.BothOrders.{short_fields, short_all, shorts_prop}
use Rattle.dbus_build.proofs.within.keeps_limits.Goals as goal

pub keeps_arrays-requires-clause-fields_signed : goal.keeps_arrays-requires-clause-fields_signed
keeps_arrays-requires-clause-fields_signed g c =
    ∥∥₁_elim c.parts-parts.ensures.valid (shorts_prop _) (λ v. short_fields 63 (parts_tree c.parts-parts.result.now).fields (v Little).formed_fields)

pub keeps_arrays-requires-clause-body_signed : goal.keeps_arrays-requires-clause-body_signed
keeps_arrays-requires-clause-body_signed g c =
    ∥∥₁_elim c.parts-parts.ensures.valid (shorts_prop _) (λ v. short_all _ ((parts_tree c.parts-parts.result.now).body) (v Little).formed_body)
