use Rattle.std.proofs.Common.{refl, subst}
use Rattle.dbus_header.specs.MessageOutcomes.{IsRefused}
use Rattle.dbus_value_model.specs.declared.limits.Limits.{Limits}
use Rattle.dbus_page.specs.Telling.{refused}
use Rattle.dbus_page.proofs.next.tell_none.Goals as goal

pub returns-in-Some : goal.returns-in-Some
returns-in-Some c =
    let f = c.in-Some.fault in
    refused f (subst (λ (l : Limits). IsRefused l c.args.bytes.now f) c.specification.ensures c.in-Some.ensures) c.stated_length-length.ensures refl refl
