use Rattle.std.proofs.Common.{refl, arith}
use Rattle.dbus_walk.proofs.Containers.{variant_held}
use Rattle.dbus_walk.proofs.Laid.{variant_laid}
use Rattle.dbus_walk.proofs.layouts.variant.Goals as goal

pub bounds-source-spot : goal.bounds-source-spot
bounds-source-spot c = let p = variant_held c.requires.stands.2 c.requires.code _ refl in omega (arith, p.inside)

pub overflow_add-first : goal.overflow_add-first
overflow_add-first c = omega (arith, (variant_held c.requires.stands.2 c.requires.code c.from-size.result c.from-size.ensures).inside)

pub overflow_add-result : goal.overflow_add-result
overflow_add-result c = omega (arith, (variant_held c.requires.stands.2 c.requires.code c.from-size.result c.from-size.ensures).inside)

pub slice_bounds-result-end : goal.slice_bounds-result-end
slice_bounds-result-end c = omega (arith, (variant_held c.requires.stands.2 c.requires.code c.from-size.result c.from-size.ensures).inside)

pub overflow_add-result-2 : goal.overflow_add-result-2
overflow_add-result-2 c = omega (arith, (variant_held c.requires.stands.2 c.requires.code c.from-size.result c.from-size.ensures).inside)

pub overflow_add-result-3 : goal.overflow_add-result-3
overflow_add-result-3 c = omega (arith, (variant_held c.requires.stands.2 c.requires.code c.from-size.result c.from-size.ensures).inside)

pub returns : goal.returns
returns c = λ v rest s. variant_laid c.args.source.now c.args.spot.now v rest s c.from-size.result c.requires.code c.from-size.ensures
