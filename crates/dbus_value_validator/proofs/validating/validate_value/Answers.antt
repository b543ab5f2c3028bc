use Rattle.std.proofs.Common.{arith}
use Rattle.dbus_value_validator.proofs.ItemSteps.{value_answered}
use Rattle.dbus_value_validator.proofs.validating.validate_value.Goals as goal

pub returns : goal.returns
returns c =
    let says = value_answered c.args.bounds c.args.order c.args.depth_left c.args.end c.args.at c.args.bytes.now (λ i. omega (arith, c.type_inv.bytes i)) c.args.types.now c.own_value.result c.own_value.ensures.gives in
    record { spelled = says.0; none = says.1; moves = c.own_value.ensures.moves }
