use Rattle.std.proofs.Common.{arith}
use Rattle.std.proofs.lemmas.Bool.{ltb-false}
use Rattle.dbus_walk.specs.Containers.{number_width}
use Rattle.dbus_walk.proofs.Containers.{array_stands}
use Rattle.dbus_unmarshal.proofs.Leaves.{not_byte}
use Rattle.dbus_unmarshal.proofs.building.BuilderVisitor.open_array.Goals as goal

pub u32_at-size-requires : goal.u32_at-size-requires
u32_at-size-requires g c = let p = array_stands c.requires.stands.2 c.requires.code in omega (arith, p.inside, c.requires.begins)

pub returns-clause-takes : goal.returns-clause-takes
returns-clause-takes g c = λ v rest s.
    let p = array_stands s c.requires.code in
    rw p.is (c.open_elements.ensures p.type p.xs (not_byte p.type (λ one. omega (arith, one, ltb-false 0 (number_width p.type) (c.requires.listed p.type p.code)))))
