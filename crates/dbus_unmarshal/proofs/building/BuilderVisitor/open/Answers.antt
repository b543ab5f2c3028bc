use Rattle.std.proofs.Common.{subst}
use Rattle.std.proofs.lemmas.Result.{IfOk-weaker}
use Rattle.dbus_walk.specs.Containers.{IsOf}
use Rattle.dbus_walk.specs.declared.container.Container.{Container}
use Rattle.dbus_unmarshal.proofs.Gathering.{variant_left}
use Rattle.dbus_unmarshal.proofs.building.BuilderVisitor.open.Goals as goal

pub returns-in_default-clause-takes : goal.returns-in_default-clause-takes
returns-in_default-clause-takes g c = λ order at v is text begins.
    let same = variant_left c.args.kind c.in_default.not-Struct c.in_default.not-Entry c.requires.kind in
    IfOk-weaker c.open_variant.result _ _ (λ m holds u done us next. holds) (c.open_variant.ensures v (subst (λ (k : Container). IsOf k v) same is) text)
