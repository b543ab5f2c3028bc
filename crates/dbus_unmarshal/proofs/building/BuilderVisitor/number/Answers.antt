use Rattle.std.proofs.Common.{arith}
use Rattle.dbus_texts.specs.Types.{NumberType}
use Rattle.dbus_walk.proofs.Parts.{number_stands}
use Rattle.dbus_unmarshal.proofs.Gathering.{placed}
use Rattle.dbus_unmarshal.proofs.Leaves.{number_coded, number_built}
use Rattle.dbus_unmarshal.proofs.building.BuilderVisitor.number.Goals as goal

pub number_at-requires-clause-inside : goal.number_at-requires-clause-inside
number_at-requires-clause-inside g c = λ k e.
    let p = number_stands c.requires.stands.2 c.args._size c.requires.some c.requires.wide in
    omega (arith, p.inside, c.requires.begins, c.requires.wide (NumberType k) e)

pub number_at-requires-clause-known : goal.number_at-requires-clause-known
number_at-requires-clause-known g c =
    let s = c.requires.stands.2 in
    let p = number_stands s c.args._size c.requires.some c.requires.wide in
    (p.code, number_coded s c.args._size p)

pub returns-clause-takes : goal.returns-clause-takes
returns-clause-takes g c = λ v rest s.
    let p = number_stands s c.args._size c.requires.some c.requires.wide in
    placed c.place.result c.args.gathered.now c.place.new.gathered v c.number_at.result (λ u done us next. record { tree = number_built s c.args._size p c.args.start c.number_at.result c.requires.begins c.number_at.ensures.built; packed = c.number_at.ensures.packed }) c.place.ensures
