use Rattle.std.proofs.Common.{length, sym, subst}
use Rattle.dbus_header.specs.MessageOutcomes.{IsWhole}
use Rattle.dbus_header.proofs.OutcomeLaws.{one_whole}
use Rattle.dbus_value_model.specs.declared.limits.Limits.{Limits}
use Rattle.dbus_page.proofs.line.whole_message.Goals as goal

pub returns-else-validated-bytes : goal.returns-else-validated-bytes
returns-else-validated-bytes c = λ one.
    let limits = c.specification.result in
    let b = c.args.bytes.now in
    let v = c.in_ok-validated.validated in
    let is = c.in_ok-validated.ensures.validated in
    let here = subst (λ (l : Limits). IsWhole l b one.0 one.1 (length b)) (sym c.specification.ensures) one.2 in
    let same = one_whole limits b v.order one.0 is.message one.1 v.length (length b) is.whole here in
    absurd (c.if-validated-bytes.false same.2)
