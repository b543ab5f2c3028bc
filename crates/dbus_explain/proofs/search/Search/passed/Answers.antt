use Rattle.std.proofs.Common.{sym, ap, ◌∙◌, subst}
use Rattle.dbus_value_model.specs.Bounds.{bounds_of}
use Rattle.dbus_value_model.specs.Specification.{specification}
use Rattle.dbus_value_model.specs.declared.limits.Bounds.{Bounds}
use Rattle.dbus_value_model.specs.declared.limits.TheConstants.{DEPTH_LIMIT}
use Rattle.dbus_value_model.specs.declared.order.Order.{Order}
use Rattle.dbus_value_validator.specs.Endings.{IsSpelledTo}
use Rattle.dbus_explain.proofs.search.Search.passed.Goals as goal

pub returns-clause-none : goal.returns-clause-none
returns-clause-none c = λ none t is shaped after spelled.
    let self = c.args.self.now in
    let bounds = c.bounds-bounds.ensures ∙ ap bounds_of c.specification.ensures in
    let place = c.args.spot.place in
    c.validate_value.ensures.none none t is shaped after
    (subst (λ (b : Bounds). IsSpelledTo b self.order DEPTH_LIMIT self.at t place self.bytes.now after) (sym bounds)
    (subst (λ (o : Order). IsSpelledTo (bounds_of specification) o DEPTH_LIMIT self.at t place self.bytes.now after) (sym self.order_is) spelled))
