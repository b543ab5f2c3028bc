use Rattle.dbus_validate.proofs.WholeParts.{after_fields, fields_alone}
use Rattle.dbus_validate.proofs.whole.Whole.fields.Goals as goal

pub returns-clause-stand : goal.returns-clause-stand
returns-clause-stand c = λ source m own whole.
    let w = c.args.self.now in
    let is = c.requires.validated in
    (after_fields w.limits w.bytes.now w.validated.now is m whole, rw (own.0, own.1) (fields_alone w.limits w.bytes.now w.validated.now is m whole))
