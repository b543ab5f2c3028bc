use Rattle.std.proofs.Common.{◌∙◌}
use Rattle.std.proofs.lemmas.Result.{IfOk-weaker}
use Rattle.dbus_unmarshal.proofs.Gathering.{element_made}
use Rattle.dbus_unmarshal.proofs.opening.element_type.Goals as goal

pub returns-in-Array : goal.returns-in-Array
returns-in-Array g c =
    IfOk-weaker c.clone.result _ _ (λ t made v x done us u next typed. made u (c.in-Some.ensures v x done us next ∙ typed))
    (element_made c.clone.result _ c.in-Some.wanted.now _ c.in-Array.element c.clone.ensures.cases c.in-Array.is c.deref.ensures)
