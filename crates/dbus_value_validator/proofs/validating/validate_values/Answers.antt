use Rattle.std.proofs.Common.{arith}
use Rattle.dbus_value_validator.proofs.ItemSteps.{fields_answered}
use Rattle.dbus_value_validator.proofs.validating.validate_values.Goals as goal

pub returns-then-wants_lengths : goal.returns-then-wants_lengths
returns-then-wants_lengths c =
    let says = fields_answered c.args.bounds c.args.order c.args.depth_left c.args.end c.args.at c.args.bytes.now (λ i. omega (arith, c.type_inv.bytes i)) c.requires.at_most c.args.types.now c.noted_values.result c.noted_values.ensures.gives in
    record { spelled = says.0; none = says.1; moves = c.noted_values.ensures.moves }

pub returns : goal.returns
returns c =
    let says = fields_answered c.args.bounds c.args.order c.args.depth_left c.args.end c.args.at c.args.bytes.now (λ i. omega (arith, c.type_inv.bytes i)) c.requires.at_most c.args.types.now c.all_values.result c.all_values.ensures.gives in
    record { spelled = says.0; none = says.1; moves = c.all_values.ensures.moves }
