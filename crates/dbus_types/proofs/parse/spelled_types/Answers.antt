use Rattle.std.proofs.Common.{sym, ◌∙◌, arith, length, ◌<◌}
use Rattle.std.proofs.lemmas.Bool.{eqb-false}
use Rattle.dbus_types.proofs.Parsing.{text_starts, text_left, reads_shorter, spelled_push}
use Rattle.dbus_types.proofs.parse.spelled_types.Goals as goal

pub parse_type-requires : goal.parse_type-requires
parse_type-requires g c =
    let w = c.loop-rest.rest.now in
    let n = eqb-false (length w) 0 (sym c.loop-rest-test.ensures) in
    let l : 0 < length w = omega (arith, n) in
    text_starts w l c.loop-rest.invariant.left

pub loop-rest-smaller : goal.loop-rest-smaller
loop-rest-smaller g c = reads_shorter c.loop-rest.rest.now c.in_ok-ty.ty c.in_ok-ty.more.now c.in_ok-ty.ensures

pub loop-rest-preserved : goal.loop-rest-preserved
loop-rest-preserved g c =
    let w = c.loop-rest.rest.now in
    let n = eqb-false (length w) 0 (sym c.loop-rest-test.ensures) in
    let l : 0 < length w = omega (arith, n) in
    let i = c.loop-rest.invariant in
    let r = c.in_ok-ty.ensures in
    record {
      left = text_left w c.in_ok-ty.ty c.in_ok-ty.more.now l i.left r;
      spelled = i.spelled ∙ spelled_push c.loop-rest.types.items c.in_ok-ty.ty c.push.new.self.items w c.in_ok-ty.more.now c.in_ok-push.ensures.items r.spelled;
    }
