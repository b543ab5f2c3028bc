use Rattle.std.proofs.Common.{ℕ, subst, sym}
use Rattle.dbus_c.specs.Checking.{IsChecked}
use Rattle.dbus_c.specs.GivenLimits.{limits_of}
use Rattle.dbus_c.proofs.Outcomes.{not_told, with_room_same}
use Rattle.dbus_c.proofs.flattening.dbus_wire_flatten.Goals as goal

pub returns-in-Ok-clause-checked : goal.returns-in-Ok-clause-checked
returns-in-Ok-clause-checked c =
    subst (λ (n : ℕ). IsChecked (limits_of c.args.limits.now) c.args.bytes.now n c.first_validated.new.told) (sym c.flatten_part.ensures.told) c.in-Ok.ensures.checked

pub returns-in-Err-clause-checked : goal.returns-in-Err-clause-checked
returns-in-Err-clause-checked c =
    subst (λ (n : ℕ). IsChecked (limits_of c.args.limits.now) c.args.bytes.now n c.first_validated.new.told) (sym (with_room_same c.in-Err.answer c.in-Err.ensures.most)) c.in-Err.ensures.checked

pub returns-in-Err-clause-flat : goal.returns-in-Err-clause-flat
returns-in-Err-clause-flat c = λ told. absurd (not_told c.in-Err.answer c.in-Err.ensures.most c.in-Err.ensures.none told)

pub returns-in-Err-clause-room : goal.returns-in-Err-clause-room
returns-in-Err-clause-room c = λ told. absurd (not_told c.in-Err.answer c.in-Err.ensures.most c.in-Err.ensures.none told)
