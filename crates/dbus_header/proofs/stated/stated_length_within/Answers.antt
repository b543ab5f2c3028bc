use Rattle.std.proofs.Common.{drop, arith}
use Rattle.dbus_value_laws.proofs.ReadSteps.{bytes_from}
use Rattle.dbus_header.proofs.StatedLengths.{header_states, header_refused, header_faulty, header_partial, header_short}
use Rattle.dbus_header.proofs.stated.stated_length_within.Goals as goal

pub returns-in-Ok-clause-stated : goal.returns-in-Ok-clause-stated
returns-in-Ok-clause-stated c =
    let states = header_states c.args.limits c.args.bytes.now (bytes_from c.args.bytes.now (λ i. omega (arith, c.type_inv.bytes i))) c.in-Ok.header 16 (drop 16 c.args.bytes.now) c.in-Ok.ensures.gives in
    rw (c.from-padding.ensures, c.padding_length.ensures.exact, c.from.ensures, c.from-in-Ok.ensures) states

pub returns-in-Ok-clause-within : goal.returns-in-Ok-clause-within
returns-in-Ok-clause-within c = let limit = c.in-Ok.ensures.there.2 in (omega arith, rw (c.from-padding.ensures, c.padding_length.ensures.exact, c.from.ensures, c.from-in-Ok.ensures) limit)

pub returns-in-Err-Refused-clause-stated : goal.returns-in-Err-Refused-clause-stated
returns-in-Err-Refused-clause-stated c =
    let faulty = rw c.in-Err-Refused.field-0-is at c.in-Err-Refused.ensures.gives in (
      header_refused c.args.limits c.args.bytes.now (bytes_from c.args.bytes.now (λ i. omega (arith, c.type_inv.bytes i))) c.in-Err-Refused.fault faulty,
      header_faulty c.args.limits c.args.bytes.now c.in-Err-Refused.fault faulty,
    )

pub returns-in-Err-Partial-clause-stated : goal.returns-in-Err-Partial-clause-stated
returns-in-Err-Partial-clause-stated c =
    let partial = rw c.in-Err-Partial.field-0-is at c.in-Err-Partial.ensures.gives in (
      header_short c.args.limits c.args.bytes.now partial,
      header_partial c.args.limits c.args.bytes.now (bytes_from c.args.bytes.now (λ i. omega (arith, c.type_inv.bytes i))) partial,
    )
