use Rattle.std.proofs.Common.{refl, subst}
use Rattle.dbus_walk.specs.Containers.{IsOf}
use Rattle.dbus_walk.specs.declared.container.Container.{Container}
use Rattle.dbus_flatten.proofs.FlatThere.{variant_item}
use Rattle.dbus_flatten.proofs.flattening.opened.Goals as goal

pub returns-in-Variant : goal.returns-in-Variant
returns-in-Variant c = λ order at v of text place. variant_item order at v (subst (λ (k : Container). IsOf k v) c.in-Variant.is of) place c.args.types.now text refl refl c.from-in-Variant.ensures
