use Rattle.std.proofs.Common.{map, subst}
use Rattle.std.specs.Prelude.{None}
use Rattle.dbus_address.specs.Views.{IsAnswer}
use Rattle.dbus_address.specs.WrittenViews.{address_parts}
use Rattle.dbus_address.proofs.FirstFlaw.{written_answer}
use Rattle.dbus_address.proofs.writing.addresses_text.Goals as goal

pub returns-in-None : goal.returns-in-None
returns-in-None g c =
    let a = map address_parts c.args.addresses.now in
    let w = c.in_ok-text.text.items in
    let exact = c.in_ok-text.ensures in
    let named = c.are_addresses.ensures.0 c.if-not-are_addresses.false in
    let answer = subst (λ z. IsAnswer z None) c.as_slice.ensures.value c.in-None.ensures in
    (exact, written_answer w a named exact answer)
