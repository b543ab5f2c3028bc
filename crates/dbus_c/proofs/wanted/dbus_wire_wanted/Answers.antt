use Rattle.std.proofs.Common.{Ok, arith, subst}
use Rattle.dbus_value_model.specs.declared.limits.Limits.{Limits}
use Rattle.dbus_header.specs.StatedLengths.{Stated}
use Rattle.dbus_validate.proofs.Headed.{none_stated}
use Rattle.dbus_c.specs.GivenLimits.{limits_of}
use Rattle.dbus_c.proofs.wanted.dbus_wire_wanted.Goals as goal

pub returns-in-Ok-None-clause-wants : goal.returns-in-Ok-None-clause-wants
returns-in-Ok-None-clause-wants c =
    let b = c.args.bytes.now in
    let found = c.in-Ok-None.field-0 in
    let stated = subst (λ (l : Limits). Stated l b (Ok found)) c.given_limits.ensures c.in-Ok-None.ensures.stated in
    record {
      stated = λ some. absurd (omega (arith, some));
      none = λ is. none_stated (limits_of c.args.limits.now) b found c.in-Ok-None.field-0-is stated;
    }
