use Rattle.std.proofs.Common.{◌≡◌, refl}
use Rattle.std.proofs.lemmas.Bool.{false≢true}
use Rattle.dbus_types.specs.SigTypes.{type_tree}
use Rattle.dbus_value_model.specs.Values.{AllOf, type_of}
use Rattle.dbus_value_model.specs.ValueViews.{value_tree, value_trees_of}
use Rattle.dbus_value_model.proofs.ValueRows.{item_of, items_from}
use Rattle.dbus_value_model.proofs.typed.all_of.Goals as goal

pub returns-then-not-has_type : goal.returns-then-not-has_type
returns-then-not-has_type g c = (
  λ e. absurd (false≢true e),
  λ h. absurd (false≢true (c.if-not-has_type.ensures.1 (item_of (λ vs. AllOf (type_tree c.args.ty.now) (value_trees_of vs)) (λ v. type_of (value_tree v) ≡ type_tree c.args.ty.now) (λ v vs h. h) c.args.values.now c.loop-value.value-index c.value-item.result c.loop-value-test.true c.value-item.is h))),
)

pub loop-value-preserved : goal.loop-value-preserved
loop-value-preserved g c =
    λ h. c.loop-value.invariant (items_from (λ vs. AllOf (type_tree c.args.ty.now) (value_trees_of vs)) c.args.values.now c.loop-value.value-index c.value-item.result c.loop-value-test.true c.value-item.is (c.if-not-has_type.ensures.0 refl, h))
