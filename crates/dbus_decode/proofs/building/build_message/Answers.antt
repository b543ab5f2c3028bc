use Rattle.std.proofs.Common.{[], refl}
use Rattle.dbus_validate.proofs.WholeParts.{told_parts}
use Rattle.dbus_decode.proofs.building.build_message.Goals as goal

pub build_fields-requires : goal.build_fields-requires
build_fields-requires g c =
    let h = c.requires.validated in
    let there = c.source-source.ensures.fields h.message h.whole in
    record { stand = (h.message.fields, there.0, there.1) }

pub build_values-requires : goal.build_values-requires
build_values-requires g c =
    let h = c.requires.validated in
    record { stand = (h.message.body, [], c.body.ensures.stand c.source-source.result h.message c.source-source.ensures.own h.whole); noted = c.body.ensures.noted }

pub returns-clause-built : goal.returns-clause-built
returns-clause-built g c = λ m whole.
    let told = told_parts c.args.limits c.args.bytes.now c.args.validated.now c.requires.validated m whole in
    let there = c.source-source.ensures.fields m whole in
    let fields = c.in_ok-fields.ensures.built m.fields there.0 there.1 in
    let body = c.in_ok-body.ensures.built m.body [] (c.body.ensures.stand c.source-source.result m c.source-source.ensures.own whole) in
    rw (fields, body, ← told.0, ← told.1, ← told.2) refl
