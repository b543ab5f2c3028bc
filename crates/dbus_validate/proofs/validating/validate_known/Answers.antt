use Rattle.std.proofs.Common.{ap, sym, subst, ◌∙◌, arith}
use Rattle.dbus_validate.specs.Validating.{IsValidated}
use Rattle.dbus_validate.specs.declared.validating.Validated.{Validated}
use Rattle.dbus_validate.proofs.Headed.{known}
use Rattle.dbus_validate.proofs.validating.validate_known.Goals as goal

pub read_head-requires : goal.read_head-requires
read_head-requires c = record { unseen = c.none-seen.ensures }

pub unreachable-requires : goal.unreachable-requires
unreachable-requires c = let w = c.requires.known in c.read_head.ensures.none c.in-None.is w.0 w.1 _ w.2

pub returns : goal.returns
returns c =
    let w = c.requires.known in
    let k = known c.args.limits c.args.bytes.now (λ i. omega (arith, c.type_inv.bytes i)) c.in-Some.head c.read_head.new.seen c.in-Some.ensures.headed w.0 w.1 _ w.2 in
    record { validated = record { validated = subst (IsValidated c.args.limits c.args.bytes.now) (sym c.validated.ensures) k.0; all = ap (λ (j : Validated). j.length) c.validated.ensures ∙ k.1 } }
