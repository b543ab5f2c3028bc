use Rattle.std.proofs.Common.{◌≡◌, ◌-◌, refl, arith}
use Rattle.dbus_walk.proofs.Containers.{array_stands, array_begins, array_counts}
use Rattle.dbus_flatten.proofs.FlatThere.{gained_as, stroke_flat}
use Rattle.dbus_flatten.proofs.flattening.FlattenerVisitor.whole_array.Goals as goal

pub returns-clause-takes : goal.returns-clause-takes
returns-clause-takes c = λ v rest s.
    let p = array_stands s c.requires.code in
    let run = c.args.run in
    let begins = array_begins s p run.start run.first c.requires.begins c.requires.parts in
    let counts = array_counts s p run.start _ c.requires.begins refl in
    let long : run.end - run.first ≡ p.n = omega (arith, c.requires.ends, counts) in
    record { gained = gained_as (stroke_flat s p begins long c.from.ensures c.from-2.ensures run.size c.requires.stroke (c.requires.wide p.type p.code)) c.push.ensures; stays = refl }
