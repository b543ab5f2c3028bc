use Rattle.std.proofs.Common.{refl, arith}
use Rattle.dbus_walk.proofs.Parts.{number_stands}
use Rattle.dbus_flatten.proofs.FlatThere.{gained_as, number_flat}
use Rattle.dbus_flatten.proofs.flattening.FlattenerVisitor.number.Goals as goal

pub number_at-requires-clause-inside : goal.number_at-requires-clause-inside
number_at-requires-clause-inside c = let p = number_stands c.requires.stands.2 c.args.size c.requires.some c.requires.wide in omega (arith, p.inside, c.requires.begins)

pub number_at-requires-clause-wide : goal.number_at-requires-clause-wide
number_at-requires-clause-wide c = let p = number_stands c.requires.stands.2 c.args.size c.requires.some c.requires.wide in (p.code, p.wide)

pub returns-clause-takes : goal.returns-clause-takes
returns-clause-takes c = λ v rest s.
    let p = number_stands s c.args.size c.requires.some c.requires.wide in
    record { gained = gained_as (number_flat s c.args.size c.args.start p c.requires.begins c.number_at.ensures c.from.ensures c.from-2.ensures) c.push.ensures; stays = refl }
