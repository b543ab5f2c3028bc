use Rattle.std.proofs.Common.{◌≡◌, rules, length, subst, sym}
use Rattle.dbus_header.specs.MessageOutcomes.{IsWhole}
use Rattle.dbus_header.proofs.OutcomeLaws.{one_whole}
use Rattle.dbus_json.specs.declared.place.LinePlace.{LinePlace}
use Rattle.dbus_list.specs.Lines.{IsLine}
use Rattle.dbus_list.specs.Told.{Told, told_seen}
use Rattle.dbus_message_model.specs.Messages.{MessageTree}
use Rattle.dbus_value_model.specs.Specification.{specification}
use Rattle.dbus_value_model.specs.declared.limits.Limits.{Limits}
use Rattle.dbus_value_model.specs.declared.order.Order.{Order}
use Rattle.dbus_page.specs.Places.{line_place}
use Rattle.dbus_page.proofs.Ending.{ended}
use Rattle.dbus_page.proofs.line.dbus_page_line.Goals as goal

pub returns-clause-written : goal.returns-clause-written
returns-clause-written c = λ texts order m here.
    let b = c.args.bytes.now in
    let width = c.args.beside.now.width in
    let v = c.in-Some-whole_message.validated in
    let is = c.in-Some-whole_message.ensures.validated in
    let one = one_whole specification b v.order order is.message m v.length (length b) is.whole here in
    let same : IsWhole specification b v.order m v.length = subst (λ (x : MessageTree). IsWhole specification b v.order x v.length) one.1 is.whole in
    let own : IsWhole c.specification.result b v.order m v.length = subst (λ (l : Limits). IsWhole l b v.order m v.length) (sym c.specification.ensures) same in
    let gains = c.write_line.ensures m own in
    let placed = subst (λ (p : LinePlace). IsLine width p (told_seen c.in-Some.told) v.order m gains.0) c.line_place.ensures gains.1 in
    let place = line_place c.args.place.now in
    let ordered = subst (λ (o : Order). IsLine width place (told_seen c.in-Some.told) o m gains.0) one.0 placed in
    let back : c.write_line.new.draft.bytes.now ≡ c.room-1.given.0 = search rules in (
      gains.0,
      subst (λ (t : Told). IsLine width place t order m gains.0) c.in-Some.ensures.1 ordered,
      ended c.args.room.now gains.0 c.new-draft.result c.write_line.new.draft c.new-draft.ensures.begins gains.2 _ c.end.new.count c.end.result back c.end.ensures.counted c.end.ensures.answers,
    )
