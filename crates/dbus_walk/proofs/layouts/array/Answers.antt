use Rattle.std.proofs.Common.{refl, arith}
use Rattle.dbus_walk.proofs.Containers.{array_stands, array_found}
use Rattle.dbus_walk.proofs.Laid.{array_laid}
use Rattle.dbus_walk.proofs.layouts.array.Goals as goal

pub overflow_add-start : goal.overflow_add-start
overflow_add-start c = let p = array_stands c.requires.stands.2 c.requires.code in omega (arith, p.inside, c.gap.ensures)

pub overflow_add-after : goal.overflow_add-after
overflow_add-after c = let p = array_stands c.requires.stands.2 c.requires.code in omega (arith, p.inside, c.gap.ensures)

pub overflow_add-first : goal.overflow_add-first
overflow_add-first c =
    let p = array_stands c.requires.stands.2 c.requires.code in
    let found = array_found c.requires.stands.2 p c.gap.ensures c.boundary.ensures.value c.gap-2.ensures refl in
    omega (arith, p.inside, found.0)

pub u32_at-n-requires : goal.u32_at-n-requires
u32_at-n-requires c = let p = array_stands c.requires.stands.2 c.requires.code in omega (arith, p.inside, c.gap.ensures)

pub overflow_add-result : goal.overflow_add-result
overflow_add-result c =
    let p = array_stands c.requires.stands.2 c.requires.code in
    let found = array_found c.requires.stands.2 p c.gap.ensures c.boundary.ensures.value c.gap-2.ensures c.u32_at-n.ensures.spelled in
    omega (arith, p.inside, found.0, found.1)

pub returns : goal.returns
returns c = λ v rest s.
    array_laid c.args.source.now c.args.spot.now v rest s c.requires.code c.gap.ensures c.boundary.ensures.value c.gap-2.ensures c.u32_at-n.ensures.spelled c.number_width.ensures.value
