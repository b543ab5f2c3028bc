use Rattle.std.proofs.Common.{Err, refl, ap, subst, ◌∙◌}
use Rattle.dbus_value_model.specs.declared.limits.Limits.{Limits}
use Rattle.dbus_c.specs.LinesRead.{ReadsLine, refused}
use Rattle.dbus_c.proofs.LinesRead.{message_read}
use Rattle.dbus_c.proofs.from_json.dbus_wire_from_json.Goals as goal

pub returns-in-Ok : goal.returns-in-Ok
returns-in-Ok c =
    subst (λ (l : Limits). ReadsLine l c.args.serial c.args.line.now c.write_built.result c.write_built.new.told c.args.out.now c.write_built.new.out) c.given_limits.ensures
    (message_read c.given_limits.result c.args.serial c.args.line.now c.write_built.result c.write_built.new.told c.args.out.now c.write_built.new.out
    c.in-Ok.order c.as_slice.result.now c.in-Ok.ensures.ok.0 c.in-Ok.ensures.ok.1 (c.as_slice.ensures.value ∙ c.in-Ok.ensures.ok.2)
    c.write_built.ensures.told c.write_built.ensures.written c.write_built.ensures.no_room)

pub returns-in-Err-Refused : goal.returns-in-Err-Refused
returns-in-Err-Refused c =
    let fault = c.in-Err-Refused.fault in
    subst (λ (l : Limits). ReadsLine l c.args.serial c.args.line.now 2 c.line_fault_told.result c.args.out.now c.args.out.now) c.given_limits.ensures
    (refused fault (c.in-Err-Refused.ensures.refused fault (ap Err c.in-Err-Refused.field-0-is)) (c.in-Err-Refused.ensures.place fault (ap Err c.in-Err-Refused.field-0-is)) refl c.line_fault_told.ensures refl)
