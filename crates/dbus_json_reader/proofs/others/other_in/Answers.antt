use Rattle.dbus_json_reader.proofs.Shapes.{if_err}
use Rattle.dbus_json_reader.proofs.others.other_in.Goals as goal

pub returns-in_err-place-clause-refused : goal.returns-in_err-place-clause-refused
returns-in_err-place-clause-refused g c = if_err _ c.from_residual-in_err-place.result (λ place code text value fits h. c.in_err-place.ensures.refused place h.within h.placed)
