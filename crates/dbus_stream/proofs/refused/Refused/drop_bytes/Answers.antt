use Rattle.std.proofs.Common.{rules, ◌≡◌, ◌+◌, ◌-◌, ◌++◌, arith, drop, length, length-append, take}
use Rattle.std.proofs.lemmas.List.{length-drop, length-take-le}
use Rattle.dbus_value_laws.proofs.ReadSteps.{bytes_from}
use Rattle.dbus_stream.proofs.SizeSteps.{dropped_more, partial_inside}
use Rattle.dbus_stream.proofs.refused.Refused.drop_bytes.Goals as goal

pub returns-clause-dropped : goal.returns-clause-dropped
returns-clause-dropped c = λ gone has.
    let r = c.args.self.now in
    let bytes = c.args.bytes.now in
    let a = c.min-noted.result in
    let m = c.min-more.result in
    let noted = c.min-noted.ensures in
    let more = c.min-more.ensures in
    let all : length r.front ≡ 16 = search rules in
    let rest = drop ((a + m) - a) (drop a r.front) in
    let long : length (take a r.front) ≡ a = length-take-le a r.front (omega (arith, noted, all)) in
    let size : length (take m bytes) ≡ m = length-take-le m bytes (omega (arith, more)) in
    let both = length-append (take a r.front) (take m bytes ++ rest) in
    let two = length-append (take m bytes) rest in
    let past = length-drop a r.front in
    let left = length-drop ((a + m) - a) (drop a r.front) in
    rw (c.copy_from_slice.ensures.after)
    (dropped_more r all gone has bytes rest a m (omega (arith, noted)) (omega (arith, noted)) (λ less. omega (arith, noted, less)) (omega (arith, more)) (λ less. omega (arith, noted, more, less)) (omega (arith, noted, more))
    (omega (arith, noted, more, all, long, size, both, two, past, left)))

pub returns-clause-inside : goal.returns-clause-inside
returns-clause-inside c = λ limits partial. partial_inside limits c.args.bytes.now (bytes_from c.args.bytes.now (λ i. omega (arith, c.type_inv.bytes i))) partial
