use Rattle.std.proofs.Common.{ℕ, ◌<◌, get_or, sym, subst, arith}
use Rattle.dbus_validate.specs.Validating.{IsValidated}
use Rattle.dbus_validate.proofs.Headed.{types_signed, body_validated, body_refused}
use Rattle.dbus_validate.proofs.SeenSteps.{noted_of_all}
use Rattle.dbus_validate.proofs.validating.validate.Goals as goal

pub read_head-requires : goal.read_head-requires
read_head-requires c = record { unseen = c.none-seen.ensures }

pub is_body-requires : goal.is_body-requires
is_body-requires c = let p = c.in_ok-head.ensures.headed in record { at_most = omega (arith, p.ends); inside = p.inside; noted = (p.fields, noted_of_all p.fields c.in_ok-head.head.end c.args.bytes.now c.read_head.new.seen p.noted) }

pub returns-clause-validated : goal.returns-clause-validated
returns-clause-validated c =
    let b = c.args.bytes.now in
    let are : (i : ℕ) → get_or b i 0 < 256 = λ i. omega (arith, c.type_inv.bytes i) in
    let p = c.in_ok-head.ensures.headed in
    let x = c.in_ok-head.head in
    subst (IsValidated c.args.limits b) (sym c.validated.ensures) (body_validated c.args.limits b are x c.read_head.new.seen p (c.is_body.ensures.accepts c.if-not-is_body.false p.fields (noted_of_all p.fields x.end b c.read_head.new.seen p.noted) (types_signed c.args.limits b are x c.read_head.new.seen p)))

pub returns-then-not-is_body-clause-none : goal.returns-then-not-is_body-clause-none
returns-then-not-is_body-clause-none c = λ none.
    let b = c.args.bytes.now in
    let are : (i : ℕ) → get_or b i 0 < 256 = λ i. omega (arith, c.type_inv.bytes i) in
    let p = c.in_ok-head.ensures.headed in
    let x = c.in_ok-head.head in
    body_refused c.args.limits b are x c.read_head.new.seen p (c.is_body.ensures.refuses c.if-not-is_body.true p.fields (noted_of_all p.fields x.end b c.read_head.new.seen p.noted) (types_signed c.args.limits b are x c.read_head.new.seen p))
