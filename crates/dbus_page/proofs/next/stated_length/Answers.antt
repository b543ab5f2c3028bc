use Rattle.std.proofs.Common.{Ok, arith, subst}
use Rattle.dbus_value_model.specs.Specification.{specification}
use Rattle.dbus_value_model.specs.declared.limits.Limits.{Limits}
use Rattle.dbus_header.specs.StatedLengths.{Stated}
use Rattle.dbus_validate.proofs.Headed.{none_stated}
use Rattle.dbus_page.proofs.next.stated_length.Goals as goal

pub returns-in-Ok-None : goal.returns-in-Ok-None
returns-in-Ok-None c =
    let b = c.args.bytes.now in
    let found = c.in-Ok-None.field-0 in
    let stated = subst (λ (l : Limits). Stated l b (Ok found)) c.specification.ensures c.in-Ok-None.ensures.stated in
    record {
      stated = λ some. absurd (omega (arith, some));
      none = λ is. none_stated specification b found c.in-Ok-None.field-0-is stated;
    }
