use Rattle.std.proofs.Common.{refl, arith}
use Rattle.std.proofs.lemmas.Bool.{false≢true}
use Rattle.dbus_build.specs.BuildFaults.{SignaturePasses, ValuesPass}
use Rattle.dbus_build.proofs.SoundParts.{signature_of}
use Rattle.dbus_build.proofs.building.check_contents.Goals as goal

pub returns-in-Some : goal.returns-in-Some
returns-in-Some g c =
    let fields = rw c.deref.ensures.value at c.in_ok-field.ensures in
    let body = rw c.deref-2.ensures.value at c.in_ok-value.ensures in
    ((c.requires.header, (fields.0, body.0)), rw c.deref-3.ensures.value at c.in-Some.ensures)

pub returns-in-Some-field : goal.returns-in-Some-field
returns-in-Some-field g c =
    let fields = rw c.deref.ensures.value at c.in_ok-field.ensures in
    let body = rw c.deref-2.ensures.value at c.in_ok-value.ensures in
    (((c.requires.header, (fields.0, body.0)), (rw c.deref-3.ensures.value at c.in-None.ensures)), rw c.in-Some-field.is at fields.1)

pub returns-in-Some-value : goal.returns-in-Some-value
returns-in-Some-value g c =
    let fields = rw c.deref.ensures.value at c.in_ok-field.ensures in
    let body = rw c.deref-2.ensures.value at c.in_ok-value.ensures in
    let names = rw c.deref-3.ensures.value at c.in-None.ensures in
    ((((c.requires.header, (fields.0, body.0)), names), rw c.in-None-field.is at fields.1), rw c.in-Some-value.is at body.1)

pub has_types-requires-clause-short : goal.has_types-requires-clause-short
has_types-requires-clause-short g c =
    let kind = signature_of 0 c.args.parts.now.fields.items (rw c.deref-3.ensures.value at c.in-None.ensures) in
    rw (c.body_signature.ensures, c.deref-5.ensures.value) (omega (arith, kind.1))

pub returns-then-not-has_types : goal.returns-then-not-has_types
returns-then-not-has_types g c =
    let fields = rw c.deref.ensures.value at c.in_ok-field.ensures in
    let body = rw c.deref-2.ensures.value at c.in_ok-value.ensures in
    let names = rw c.deref-3.ensures.value at c.in-None.ensures in
    let types = rw (c.deref-4.ensures.value, c.body_signature.ensures, c.deref-5.ensures.value) at c.if-not-has_types.ensures in (
      ((((c.requires.header, (fields.0, body.0)), names), rw c.in-None-field.is at fields.1), rw c.in-None-value.is at body.1),
      λ e. false≢true (types.1 e),
    )

pub returns : goal.returns
returns g c =
    let fields = rw c.deref.ensures.value at c.in_ok-field.ensures in
    let body = rw c.deref-2.ensures.value at c.in_ok-value.ensures in
    let types = rw (c.deref-4.ensures.value, c.body_signature.ensures, c.deref-5.ensures.value) at c.if-not-has_types.ensures in
    let names = rw c.deref-3.ensures.value at c.in-None.ensures in
    let values : ValuesPass c.args.limits c.args.parts.now =
    ((((c.requires.header, (fields.0, body.0)), names), rw c.in-None-field.is at fields.1), rw c.in-None-value.is at body.1) in
    let all : SignaturePasses c.args.limits c.args.parts.now = (values, types.0 refl) in
    let numbers = fields.2 c.in-None-field.is 0 c.requires.header.0.1 in
    (all, record { kind = omega arith; flags = omega arith; serial = omega arith; fields = numbers; body = body.2 c.in-None-value.is })
