use Rattle.std.proofs.lemmas.Result.{err_from_is_err_and}
use Rattle.dbus_value_model.proofs.Indexes.{all_below}
use Rattle.dbus_build.proofs.building.check.Goals as goal

pub returns-in_err-check_header : goal.returns-in_err-check_header
returns-in_err-check_header g c =
    let p = err_from_is_err_and c.from_residual.result c.from_residual.ensures.1 in
    rw (p.1, p.2) (c.in_err-check_header.ensures c.args.limits)

pub returns-in-Some : goal.returns-in-Some
returns-in-Some g c = (c.in_ok-size.ensures.2, c.in-Some.ensures)

pub returns-in-None : goal.returns-in-None
returns-in-None g c = (c.in_ok-size.ensures.0, c.in_ok-size.ensures.1, (c.in_ok-size.ensures.2, all_below _ 0 _ c.in-None.ensures))
