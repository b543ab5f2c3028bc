use Rattle.dbus_validate.proofs.field_values.validate_field_value.Goals as goal

pub returns-in-Path-clause-held : goal.returns-in-Path-clause-held
returns-in-Path-clause-held c = rw (← c.in-Path.ensures) (c.path.ensures.held c.args.limits)

pub returns-in-Name-clause-held : goal.returns-in-Name-clause-held
returns-in-Name-clause-held c = rw (← c.in-Name.ensures) (c.name.ensures.held c.args.limits)

pub returns-in-Serial-clause-held : goal.returns-in-Serial-clause-held
returns-in-Serial-clause-held c = rw (← c.in-Serial.ensures) (c.serial.ensures.held c.args.limits)

pub returns-in-Signature-clause-held : goal.returns-in-Signature-clause-held
returns-in-Signature-clause-held c = rw (← c.in-Signature.ensures) (c.signature.ensures.held c.args.limits)

pub returns-in-Number-clause-held : goal.returns-in-Number-clause-held
returns-in-Number-clause-held c = rw (← c.in-Number.ensures) (c.number.ensures.held c.args.limits)
