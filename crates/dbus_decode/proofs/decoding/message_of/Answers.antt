use Rattle.std.proofs.Common.{◌∙◌, subst, sym}
use Rattle.dbus_value_model.specs.declared.order.Order.TheVariants.{Little}
use Rattle.dbus_message_model.specs.Messages.{MessageTree}
use Rattle.dbus_message_model.specs.PartsViews.{parts_tree}
use Rattle.dbus_message_model.proofs.BothOrders.{any_message_length}
use Rattle.dbus_message_model.proofs.Widening.{widest_valid}
use Rattle.dbus_header.specs.MessageOutcomes.{IsWhole}
use Rattle.dbus_header.proofs.OutcomeLaws.{whole_bytes, whole_valid}
use Rattle.dbus_decode.proofs.decoding.message_of.Goals as goal

pub of_valid-requires-clause-valid : goal.of_valid-requires-clause-valid
of_valid-requires-clause-valid g c =
    let a = c.args in
    let j = a.validated.now in
    let h = c.requires.validated in
    let m = parts_tree c.in_ok-parts.parts in
    let whole = subst (λ (m : MessageTree). IsWhole a.limits a.bytes.now j.order m j.length) (sym (c.in_ok-parts.ensures.built h.message h.whole)) h.whole in
    widest_valid a.limits m (whole_valid a.limits a.bytes.now j.order m j.length whole)

pub of_valid-requires-clause-sized : goal.of_valid-requires-clause-sized
of_valid-requires-clause-sized g c =
    let a = c.args in
    let j = a.validated.now in
    let h = c.requires.validated in
    let m = parts_tree c.in_ok-parts.parts in
    let whole = subst (λ (m : MessageTree). IsWhole a.limits a.bytes.now j.order m j.length) (sym (c.in_ok-parts.ensures.built h.message h.whole)) h.whole in
    (whole_bytes a.limits a.bytes.now j.order m j.length whole).1 ∙ any_message_length j.order Little m
