use Rattle.std.proofs.Common.{ℕ, ◌+◌, take, drop, ap, ◌∙◌}
use Rattle.dbus_value_model.specs.Reading.{number_of}
use Rattle.dbus_value_model.specs.declared.order.Order.{Order}
use Rattle.dbus_explain.proofs.places.end_of_fields.Goals as goal

pub returns-clause-fields : goal.returns-clause-fields
returns-clause-fields c =
    let bytes = c.args.bytes.now in
    ap (λ (n : ℕ). 16 + n) (c.u32_at.ensures.spelled ∙ ap (λ (o : Order). number_of o (take 4 (drop 12 bytes))) c.order_of.ensures)
