use Rattle.std.proofs.Common.{◌≡◌, rules, subst, sym}
use Rattle.dbus_header.specs.MessageOutcomes.{IsWhole}
use Rattle.dbus_header.proofs.OutcomeLaws.{one_whole}
use Rattle.dbus_json.specs.declared.integers.Integers.TheVariants.{Exact}
use Rattle.dbus_json.specs.JsonMessages.{IsJsonLine}
use Rattle.dbus_json.specs.declared.place.LinePlace.{LinePlace}
use Rattle.dbus_message_model.specs.Messages.{MessageTree}
use Rattle.dbus_value_model.specs.declared.limits.Limits.{Limits}
use Rattle.dbus_value_model.specs.declared.order.Order.{Order}
use Rattle.dbus_page.proofs.Ending.{ended}
use Rattle.dbus_page.proofs.json_line.dbus_page_json.Goals as goal

pub returns-in-Some-clause-written : goal.returns-in-Some-clause-written
returns-in-Some-clause-written c = λ order m n whole.
    let limits = c.specification-limits.result in
    let b = c.args.bytes.now in
    let v = c.in-Some.validated in
    let is = c.in-Some.ensures.validated in
    let here = subst (λ (l : Limits). IsWhole l b order m n) (sym c.specification-limits.ensures) whole in
    let one = one_whole limits b v.order order is.message m v.length n is.whole here in
    let own : IsWhole limits b v.order m v.length = subst (λ (x : MessageTree). IsWhole limits b v.order x v.length) one.1 is.whole in
    let gains = c.write_json.ensures.written m own in
    let same = gains.2.same in
    let back : c.write_json.new.draft.bytes.now ≡ c.room-1.given.0 = search rules in (
      gains.0,
      subst (λ (p : LinePlace). IsJsonLine Exact order m p gains.0) c.line_place-place.ensures (subst (λ (o : Order). IsJsonLine Exact o m c.line_place-place.result gains.0) one.0 gains.1),
      ended c.args.room.now gains.0 c.new-draft.result c.write_json.new.draft c.new-draft.ensures.begins gains.2 _ c.end.new.count c.end.result back c.end.ensures.counted c.end.ensures.answers,
    )
