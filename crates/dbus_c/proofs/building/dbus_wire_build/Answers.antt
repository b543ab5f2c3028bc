use Rattle.std.proofs.Common.{refl, subst}
use Rattle.dbus_value_model.specs.declared.limits.Limits.{Limits}
use Rattle.dbus_c.specs.Building.{Builds, Nothing}
use Rattle.dbus_c.proofs.building.dbus_wire_build.Goals as goal

pub build_given-requires : goal.build_given-requires
build_given-requires c = (Nothing, refl)

pub returns : goal.returns
returns c = subst (λ (l : Limits). Builds l Nothing c.args.draft.now c.build_given.result c.build_given.new.told c.args.out.now c.build_given.new.out) c.given_limits.ensures (c.build_given.ensures Nothing refl)
