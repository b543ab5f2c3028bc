use Rattle.std.proofs.Common.{take, drop, ap, ◌∙◌}
use Rattle.dbus_value_model.specs.Reading.{number_of}
use Rattle.dbus_value_model.specs.declared.order.Order.{Order}
use Rattle.dbus_explain.specs.Heads.{flags_of, kind_of}
use Rattle.dbus_explain.specs.Places.{order_of}
use Rattle.dbus_explain.proofs.head.first_part.Goals as goal

pub returns : goal.returns
returns c =
    let bytes = c.args.bytes.now in
    let order = c.order_of-order.ensures in
    let serial = c.u32_at.ensures.spelled ∙ ap (λ (o : Order). number_of o (take 4 (drop 8 bytes))) order in
    ap (λ (o : Order). record { order = o; kind = kind_of bytes; flags = flags_of bytes; serial = c.u32_at.result }) order
    ∙ ap (λ n. record { order = order_of bytes; kind = kind_of bytes; flags = flags_of bytes; serial = n }) serial
