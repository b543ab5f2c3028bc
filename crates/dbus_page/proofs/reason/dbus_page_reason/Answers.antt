use Rattle.std.proofs.Common.{◌≡◌, rules, subst}
use Rattle.dbus_header.specs.NoMessage.{IsFaultAtEnd}
use Rattle.dbus_value_model.specs.FaultTexts.{reason_text}
use Rattle.dbus_value_model.specs.declared.limits.Limits.{Limits}
use Rattle.dbus_page.proofs.Ending.{ended}
use Rattle.dbus_page.proofs.reason.dbus_page_reason.Goals as goal

pub returns-clause-written : goal.returns-clause-written
returns-clause-written c = λ none.
    let fault = c.fault_at_end-fault.result in
    let back : c.write_reason.new.draft.bytes.now ≡ c.room-1.given.0 = search rules in (
      fault,
      subst (λ (l : Limits). IsFaultAtEnd l c.args.bytes.now fault) c.specification-limits.ensures c.fault_at_end-fault.ensures,
      ended c.args.room.now (reason_text fault.reason) c.new-draft.result c.write_reason.new.draft c.new-draft.ensures.begins c.write_reason.ensures _ c.end.new.count c.end.result back c.end.ensures.counted c.end.ensures.answers,
    )
