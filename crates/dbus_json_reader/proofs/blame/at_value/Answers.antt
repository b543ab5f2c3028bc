use Rattle.std.proofs.Common.{◌≡◌, ◌+◌, subst, arith}
use Rattle.dbus_json_reader.specs.JsonFaults.{IsShown}
use Rattle.dbus_json_reader.proofs.blame.at_value.Goals as goal

pub returns : goal.returns
returns g c = λ value told.
    let h = c.before_value.ensures value told in
    let sum : h.0 + 0 ≡ h.0 = omega arith in
    (h.0, h.1, subst (IsShown c.after.result c.args.reason) sum (c.after.ensures.shown c.args.reason h.0 0 h.2 c.here.ensures))
