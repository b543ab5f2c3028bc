use Rattle.std.proofs.Common.{◌≡◌, rules, refl, subst}
use Rattle.dbus_header.specs.NoMessage.{IsFaultAtEnd}
use Rattle.dbus_value_model.specs.declared.limits.Limits.{Limits}
use Rattle.dbus_page.proofs.Ending.{ended}
use Rattle.dbus_page.proofs.explaining.dbus_page_explain.Goals as goal

pub returns-clause-written : goal.returns-clause-written
returns-clause-written c = λ none.
    let gains = c.explain_message.ensures in
    let same = gains.3.same in
    let back : c.explain_message.new.draft.bytes.now ≡ c.room-1.given.0 = search rules in (
      _,
      record {
        bytes_are = refl;
        fault = subst (λ (l : Limits). IsFaultAtEnd l c.args.bytes.now c.fault_at_end.result) c.specification-limits.ensures c.fault_at_end.ensures;
        number_is = refl;
        offset_is = refl;
      },
      (gains.0, gains.1, ended c.args.room.now gains.0 c.new-draft.result c.explain_message.new.draft c.new-draft.ensures.begins gains.3 _ c.end.new.count c.end.result back c.end.ensures.counted c.end.ensures.answers),
    )
