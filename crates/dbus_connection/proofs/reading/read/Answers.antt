use Rattle.std.proofs.Common.{◌≤◌, ℕ, Option, Ok, refl, sym, subst, inl, inr, arith}
use Rattle.dbus_header.specs.StatedLengths.{Stated, StatesLength}
use Rattle.dbus_validate.proofs.Headed.{none_stated}
use Rattle.dbus_connection.specs.Reading.{IsRead}
use Rattle.dbus_connection.specs.Shown.{told}
use Rattle.dbus_connection.specs.declared.event.Event.{Event}
use Rattle.dbus_connection.proofs.Passing.{fitting}
use Rattle.dbus_connection.proofs.reading.read.Goals as goal

pub returns-then-bytes-stated-clause-read : goal.returns-then-bytes-stated-clause-read
returns-then-bytes-stated-clause-read c =
    let settings = c.args.settings in
    let bytes = c.args.bytes.now in
    let n = c.in-Ok-Some.stated in
    let states : StatesLength settings.limits bytes n = subst (λ (o : Option ℕ). Stated settings.limits bytes (Ok o)) c.in-Ok-Some.field-0-is c.in-Ok-Some.ensures.stated in
    let short : n ≤ settings.longest = omega (arith, c.if-stated-from.false, c.from.ensures) in
    let few = c.if-bytes-stated.true in
    subst (λ (e : Event). IsRead settings bytes c.not_taken-then-bytes-stated.result.taken (told e)) (sym c.not_taken-then-bytes-stated.ensures.event)
    (record { stated = inl states; wanted = inl few; fits = fitting settings bytes n states short }, c.not_taken-then-bytes-stated.ensures.taken)

pub given-requires-clause-fits : goal.given-requires-clause-fits
given-requires-clause-fits c =
    let settings = c.args.settings in
    let states : StatesLength settings.limits c.args.bytes.now c.in-Ok-Some.stated = subst (λ (o : Option ℕ). Stated settings.limits c.args.bytes.now (Ok o)) c.in-Ok-Some.field-0-is c.in-Ok-Some.ensures.stated in
    fitting settings c.args.bytes.now c.in-Ok-Some.stated states (omega (arith, c.if-stated-from.false, c.from.ensures))

pub unread-requires-clause-fits : goal.unread-requires-clause-fits
unread-requires-clause-fits c =
    let settings = c.args.settings in
    let states : StatesLength settings.limits c.args.bytes.now c.in-Ok-Some.stated = subst (λ (o : Option ℕ). Stated settings.limits c.args.bytes.now (Ok o)) c.in-Ok-Some.field-0-is c.in-Ok-Some.ensures.stated in
    fitting settings c.args.bytes.now c.in-Ok-Some.stated states (omega (arith, c.if-stated-from.false, c.from.ensures))

pub returns-in-Ok-None-clause-read : goal.returns-in-Ok-None-clause-read
returns-in-Ok-None-clause-read c =
    let settings = c.args.settings in
    let bytes = c.args.bytes.now in
    let found = c.in-Ok-None.field-0 in
    let few = (subst (λ (o : Option ℕ). Stated settings.limits bytes (Ok o)) c.in-Ok-None.field-0-is c.in-Ok-None.ensures.stated).0 in
    subst (λ (e : Event). IsRead settings bytes c.not_taken-in-Ok-None.result.taken (told e)) (sym c.not_taken-in-Ok-None.ensures.event)
    (record { stated = inr (refl, few); wanted = inl few; fits = λ n s. absurd (none_stated settings.limits bytes found c.in-Ok-None.field-0-is c.in-Ok-None.ensures.stated n s) }, c.not_taken-in-Ok-None.ensures.taken)
