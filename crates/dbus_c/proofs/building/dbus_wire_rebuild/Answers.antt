use Rattle.std.proofs.Common.{refl, sym, subst, arith}
use Rattle.dbus_value_model.specs.declared.limits.Limits.{Limits}
use Rattle.dbus_validate.specs.Validating.{IsValidated}
use Rattle.dbus_c.specs.Building.{FieldsOf, no_message}
use Rattle.dbus_c.specs.GivenLimits.{limits_of}
use Rattle.dbus_c.proofs.Rebuilt.{changed, comes_back}
use Rattle.dbus_c.proofs.building.dbus_wire_rebuild.Goals as goal

pub build_given-requires : goal.build_given-requires
build_given-requires c =
    let first = subst (λ (l : Limits). IsValidated l c.args.bytes.now c.in-Ok.validated) (sym c.given_limits.ensures) c.in-Ok.ensures.validated in
    (FieldsOf c.in-Ok.validated.order first.message, record { first = first; order_is = refl; fields = refl })

pub returns-in-Ok-clause-rebuilds : goal.returns-in-Ok-clause-rebuilds
returns-in-Ok-clause-rebuilds c =
    let j = c.in-Ok.validated in
    let first = subst (λ (l : Limits). IsValidated l c.args.bytes.now j) (sym c.given_limits.ensures) c.in-Ok.ensures.validated in
    let builds = c.build_given.ensures (FieldsOf j.order first.message) (record { first = first; order_is = refl; fields = refl }) in
    changed (limits_of c.args.limits.now) c.given_limits.result c.args.bytes.now c.args.draft.now j first c.build_given.result c.build_given.new.told c.args.out.now c.build_given.new.out c.given_limits.ensures builds

pub returns-in-Ok-clause-same : goal.returns-in-Ok-clause-same
returns-in-Ok-clause-same c = λ has.
    let j = c.in-Ok.validated in
    let first = subst (λ (l : Limits). IsValidated l c.args.bytes.now j) (sym c.given_limits.ensures) c.in-Ok.ensures.validated in
    let builds = c.build_given.ensures (FieldsOf j.order first.message) (record { first = first; order_is = refl; fields = refl }) in
    let rebuilds = changed (limits_of c.args.limits.now) c.given_limits.result c.args.bytes.now c.args.draft.now j first c.build_given.result c.build_given.new.told c.args.out.now c.build_given.new.out c.given_limits.ensures builds in
    comes_back (limits_of c.args.limits.now) c.args.bytes.now c.args.draft.now has c.build_given.result c.build_given.new.told c.args.out.now c.build_given.new.out rebuilds

pub returns-in-Err-clause-rebuilds : goal.returns-in-Err-clause-rebuilds
returns-in-Err-clause-rebuilds c =
    no_message (λ order m n whole. let is = (c.in-Err.ensures.checked.exact.whole order m n whole).0 in omega (arith, is, c.in-Err.ensures.none)) c.in-Err.ensures.checked.tells refl
