use Rattle.std.proofs.Common.{arith}
use Rattle.std.proofs.lemmas.Result.{err_from_is_err_and}
use Rattle.dbus_texts.specs.Types.{MoreTypes, NoTypes}
use Rattle.dbus_value_checker.specs.Suspended.{done}
use Rattle.dbus_value_laws.proofs.ReadSteps.{bytes_at}
use Rattle.dbus_unmarshal.proofs.Validating.{asked, refused, validated}
use Rattle.dbus_value_laws.proofs.KindLaws.{held_types}
use Rattle.dbus_unmarshal.proofs.getting.is_whole.Goals as goal

pub begin-requires-clause-types : goal.begin-requires-clause-types
begin-requires-clause-types c =
    let t = c.requires.single in
    (MoreTypes t.0 NoTypes, held_types t.0 c.args.spot.now.types.now t.2 t.1)

pub run-requires : goal.run-requires
run-requires c =
    let t = c.requires.single in
    let y = c.args.spot.now in
    let held = held_types t.0 y.types.now t.2 t.1 in
    record { valid = (asked c.args.bounds c.args.order y.depth_left c.args.end t.0 y.at, c.begin.ensures (MoreTypes t.0 NoTypes) done held.0 held.1) }

pub returns-in_err-run : goal.returns-in_err-run
returns-in_err-run c = λ t single text.
    let y = c.args.spot.now in
    let held = held_types t y.types.now text single in
    let are = bytes_at c.args.bytes.now y.at (λ i. omega (arith, c.type_inv.bytes i)) in
    let runs = rw c.rest_after.ensures at c.in_err-run.ensures.runs in
    let p = err_from_is_err_and c.from_residual.result c.from_residual.ensures.1 in
    rw (p.1, p.2) (refused c.args.bounds c.args.order y.depth_left c.args.end t y.at c.args.bytes.now single are _ (runs (asked c.args.bounds c.args.order y.depth_left c.args.end t y.at) (c.begin.ensures (MoreTypes t NoTypes) done held.0 held.1)))

pub returns : goal.returns
returns c = λ t single text.
    let y = c.args.spot.now in
    let held = held_types t y.types.now text single in
    let are = bytes_at c.args.bytes.now y.at (λ i. omega (arith, c.type_inv.bytes i)) in
    let runs = rw c.rest_after.ensures at c.in_ok-run.ensures.runs in
    validated c.args.bounds c.args.order y.depth_left c.args.end t y.at c.args.bytes.now single are c.run.new.self c.in_ok-run.field-0 c.is_live.result (runs (asked c.args.bounds c.args.order y.depth_left c.args.end t y.at) (c.begin.ensures (MoreTypes t NoTypes) done held.0 held.1)) c.is_live.ensures
