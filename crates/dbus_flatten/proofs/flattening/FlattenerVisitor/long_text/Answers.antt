use Rattle.std.proofs.Common.{arith, refl}
use Rattle.dbus_walk.proofs.Parts.{long_stands, long_counts}
use Rattle.dbus_flatten.proofs.FlatThere.{gained_as, text_flat}
use Rattle.dbus_flatten.proofs.flattening.FlattenerVisitor.long_text.Goals as goal

pub overflow_add-start : goal.overflow_add-start
overflow_add-start c = let p = long_stands c.requires.stands.2 c.requires.code in omega (arith, p.inside, c.requires.begins)

pub returns-clause-takes : goal.returns-clause-takes
returns-clause-takes c = λ v rest s.
    let p = long_stands s c.requires.code in
    let counts = long_counts s p c.args.start c.args.size c.requires.begins c.requires.counts in
    record { gained = gained_as (text_flat s 4 p (omega (arith, c.requires.begins)) counts c.from.ensures) c.push.ensures; stays = refl }
