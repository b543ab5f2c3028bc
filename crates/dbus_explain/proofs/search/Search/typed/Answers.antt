use Rattle.std.proofs.Common.{length, refl}
use Rattle.dbus_value_model.specs.declared.order.Order.TheVariants.{Little}
use Rattle.dbus_explain.proofs.search.Search.typed.Goals as goal

pub returns-in_err-length-clause-none : goal.returns-in_err-length-clause-none
returns-in_err-length-clause-none c = λ none w q within is. c.in_err-length.ensures.none refl Little (length w) (is.measured Little) is.ended
