use Rattle.std.proofs.Common.{subst, sym}
use Rattle.dbus_header.specs.MessageOutcomes.{IsWhole}
use Rattle.dbus_header.proofs.OutcomeLaws.{one_whole}
use Rattle.dbus_message_model.specs.Messages.{MessageTree}
use Rattle.dbus_value_model.specs.declared.limits.Limits.{Limits}
use Rattle.dbus_value_model.specs.declared.order.Order.{Order}
use Rattle.dbus_page.specs.Items.{AreItems}
use Rattle.dbus_page.proofs.items.dbus_page_items.Goals as goal

pub returns-clause-written : goal.returns-clause-written
returns-clause-written c = λ order m n whole.
    let limits = c.specification-limits.result in
    let b = c.args.bytes.now in
    let v = c.in-Some.validated in
    let is = c.in-Some.ensures.validated in
    let here = subst (λ (l : Limits). IsWhole l b order m n) (sym c.specification-limits.ensures) whole in
    let one = one_whole limits b v.order order is.message m v.length n is.whole here in
    let own : IsWhole limits b v.order m v.length = subst (λ (x : MessageTree). IsWhole limits b v.order x v.length) one.1 is.whole in
    subst (λ (o : Order). AreItems o m c.args.items.now c.write_items.new.items c.write_items.result) one.0 (c.write_items.ensures m own)
