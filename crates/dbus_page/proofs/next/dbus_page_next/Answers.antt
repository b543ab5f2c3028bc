use Rattle.std.proofs.Common.{refl, subst}
use Rattle.dbus_header.specs.MessageOutcomes.{IsWhole}
use Rattle.dbus_value_model.specs.declared.limits.Limits.{Limits}
use Rattle.dbus_page.specs.Telling.{whole}
use Rattle.dbus_page.proofs.next.dbus_page_next.Goals as goal

pub returns-in-Some : goal.returns-in-Some
returns-in-Some c =
    let v = c.in-Some.validated in
    let is = c.in-Some.ensures.validated in
    whole v.order is.message (subst (λ (l : Limits). IsWhole l c.args.bytes.now v.order is.message v.length) c.specification.ensures is.whole) refl refl
