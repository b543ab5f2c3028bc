use Rattle.std.proofs.Common.{◌≡◌, ℕ, sym, subst, arith}
use Rattle.json.specs.Value.{value_view}
use Rattle.dbus_json_reader.specs.JsonFaults.{IsShown}
use Rattle.dbus_json_reader.specs.declared.reasons.JsonReason.{JsonReason}
use Rattle.dbus_json_reader.proofs.FieldValues.{not_zero, zero_refused, zero_shown}
use Rattle.dbus_json_reader.proofs.known.serial.Goals as goal

pub returns-in-Err-clause-shown : goal.returns-in-Err-clause-shown
returns-in-Err-clause-shown g c =
    subst (λ (r : JsonReason). IsShown c.in-Err.why r 0) (not_zero (value_view c.args.json.now) (c.in-Err.ensures.refused 0 (omega arith))) c.in-Err.ensures.shown

pub returns-then-number-eq0-clause-refused : goal.returns-then-number-eq0-clause-refused
returns-then-number-eq0-clause-refused g c = zero_refused (value_view c.args.json.now) c.in-Ok.number c.in-Ok.ensures.ok c.if-number-eq0.true

pub returns-then-number-eq0-clause-shown : goal.returns-then-number-eq0-clause-shown
returns-then-number-eq0-clause-shown g c =
    subst (λ (r : JsonReason). IsShown c.here.result r 0) (sym (zero_shown (value_view c.args.json.now) c.in-Ok.number c.in-Ok.ensures.ok c.if-number-eq0.true)) c.here.ensures
