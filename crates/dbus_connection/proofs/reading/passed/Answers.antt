use Rattle.std.proofs.Common.{drop, sym, subst}
use Rattle.dbus_connection.specs.Reading.{IsRead}
use Rattle.dbus_connection.specs.Shown.{told}
use Rattle.dbus_connection.specs.declared.event.Event.{Event}
use Rattle.dbus_connection.proofs.Passing.{header_passed, header_there}
use Rattle.dbus_connection.proofs.reading.passed.Goals as goal

pub returns-in-Ok-clause-read : goal.returns-in-Ok-clause-read
returns-in-Ok-clause-read c =
    let bytes = c.args.bytes.now in
    let is = header_passed c.args.settings bytes c.args.length c.in-Ok.header (drop 16 bytes) c.in-Ok.ensures.gives c.requires.stated c.requires.long in
    subst (λ (e : Event). IsRead c.args.settings bytes c.not_taken.result.taken (told e)) (sym c.not_taken.ensures.event) (is, c.not_taken.ensures.taken)

pub returns-in-Err-clause-read : goal.returns-in-Err-clause-read
returns-in-Err-clause-read c =
    absurd (header_there c.args.settings c.args.bytes.now c.args.length c.in-Err.field-0 c.in-Err.ensures.gives c.requires.stated)
