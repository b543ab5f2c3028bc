use Rattle.std.proofs.Common.{ℕ, List, refl, sym, subst}
use Rattle.dbus_c_build.specs.Building.{IsBuilt}
use Rattle.dbus_c.specs.Building.{fields_kept}
use Rattle.dbus_c.proofs.Built.{given_so, message_built, no_parts_refused, parts_refused}
use Rattle.dbus_c.proofs.building.build_given.Goals as goal

pub returns-in-Err : goal.returns-in-Err
returns-in-Err c = λ k keeps.
    no_parts_refused c.args.given.now.limits k c.args.draft.now 2 c.field_told.result c.args.out.now c.args.out.now
    c.in-Err.reason (c.in-Err.ensures k keeps) refl c.field_told.ensures refl

pub build-requires : goal.build-requires
build-requires c =
    let r = c.requires in
    let p = c.in-Ok.parts in
    record { kept = (fields_kept r.0, given_so c.args.given.now r.0 p.order r.1 (c.in-Ok.ensures r.0 r.1).keeps) }

pub returns-in-Ok-build : goal.returns-in-Ok-build
returns-in-Ok-build c = λ k keeps.
    let p = c.in-Ok.parts in
    let limits = c.args.given.now.limits in
    let stand = c.in-Ok.ensures k keeps in
    let built = c.in-Ok-build.ensures.built (fields_kept k) (given_so c.args.given.now k p.order keeps stand.keeps) in
    let same = subst (λ (l : List ℕ). IsBuilt limits (fields_kept k) p l) (sym c.as_slice.ensures.value) built in
    message_built limits k c.args.draft.now c.write_built.result c.write_built.new.told c.args.out.now c.write_built.new.out
    p c.as_slice.result.now stand same c.write_built.ensures.told c.write_built.ensures.written c.write_built.ensures.no_room

pub returns-in_default : goal.returns-in_default
returns-in_default c = λ k keeps.
    let p = c.in-Ok.parts in
    let stand = c.in-Ok.ensures k keeps in
    let is = c.in-Err-build.ensures.refused (fields_kept k) (given_so c.args.given.now k p.order keeps stand.keeps) in
    parts_refused c.args.given.now.limits k c.args.draft.now 2 c.refusal_told.result c.args.out.now c.args.out.now
    p c.in-Err-build.why stand c.in_default.not-Memory is refl c.refusal_told.ensures refl
