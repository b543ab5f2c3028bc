use Rattle.std.proofs.Common.{◌≡◌, ℕ, List, rules, length, refl, subst, sym}
use Rattle.dbus_calls.specs.Events.{event_of}
use Rattle.dbus_calls.specs.OwnerChanges.{change_of}
use Rattle.dbus_header.specs.MessageOutcomes.{IsWhole}
use Rattle.dbus_names.specs.Filters.{is_well_known}
use Rattle.dbus_names.specs.NameStates.{asked_by, wanted_change}
use Rattle.dbus_value_model.specs.declared.limits.Limits.{Limits}
use Rattle.dbus_view.specs.Views.{ViewState, Views}
use Rattle.dbus_page.specs.Events.{IsEvent, IsSaid, Tells, texts}
use Rattle.dbus_page.proofs.Ending.{ended}
use Rattle.dbus_page.proofs.event.dbus_page_event.Goals as goal

pub returns-clause-told : goal.returns-clause-told
returns-clause-told c = λ order m here.
    let b = c.args.bytes.now in
    let view = c.in-Ok.view in
    let viewed = c.in-Ok.ensures.viewed in
    let limited = subst (λ (l : Limits). IsWhole l b order m (length b)) (sym viewed.0) here in
    let views : Views view order m = subst (λ (x : List ℕ). IsWhole view.limits x order m (length x)) (sym viewed.1) limited in
    let seen : Views c.of-message.result order m = subst (λ (v : ViewState). Views v order m) (sym c.of-message.ensures) views in
    let event = c.event_told.result in
    let said = c.said_by.result in
    let holders = c.holders_told.result in
    let page = c.page_event.result in
    let numbers = c.page_event.ensures in
    let text = texts event.caller.now event.sender.now said.name.now said.unique.now holders.for_caller.now holders.for_owner.now holders.by_name.now in
    let tells : Tells page text m = record {
      caller = event.caller.now;
      sender = event.sender.now;
      name = said.name.now;
      unique = said.unique.now;
      for_caller = holders.for_caller.now;
      for_owner = holders.for_owner.now;
      by_name = holders.by_name.now;
      text_is = refl;
      call_lengths = numbers.call_lengths;
      name_lengths = numbers.name_lengths;
      holder_lengths = numbers.holder_lengths;
      reserved = numbers.reserved;
      event = subst (λ (n : ℕ). IsEvent n page.serial event.caller.now event.sender.now (event_of m)) (sym numbers.event.0)
          (subst (λ (n : ℕ). IsEvent event.event n event.caller.now event.sender.now (event_of m)) (sym numbers.event.1) (c.event_told.ensures order m seen));
      said = subst (λ (n : ℕ). IsSaid n said.name.now said.unique.now (wanted_change is_well_known (change_of m)) (asked_by is_well_known m)) (sym numbers.says) (c.said_by.ensures order m seen);
      holders = c.holders_told.ensures order m views;
    } in
    let back : c.write_texts.new.draft.bytes.now ≡ c.room-1.given.0 = search rules in (
      text,
      tells,
      ended c.args.room.now text c.new-draft.result c.write_texts.new.draft c.new-draft.ensures.begins c.write_texts.ensures _ c.end.new.count c.end.result back c.end.ensures.counted c.end.ensures.answers,
    )
