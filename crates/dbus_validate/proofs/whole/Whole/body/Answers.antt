use Rattle.std.proofs.Common.{sym}
use Rattle.dbus_validate.proofs.WholeParts.{begins, few, body_there, noted_there}
use Rattle.dbus_validate.proofs.whole.Whole.body.Goals as goal

pub signature-types-requires : goal.signature-types-requires
signature-types-requires c = record { noted = (c.requires.validated.message.fields, noted_there c.args.self.now.limits c.args.self.now.bytes.now c.args.self.now.validated.now c.requires.validated) }

pub lengths_of-requires : goal.lengths_of-requires
lengths_of-requires c =
    let w = c.args.self.now in
    let is = c.requires.validated in
    let noted = noted_there w.limits w.bytes.now w.validated.now is in
    record { few = few w.limits w.bytes.now w.validated.now is is.message is.whole c.signature-types.result.now (c.signature-types.ensures is.message.fields noted) }

pub returns-clause-begins : goal.returns-clause-begins
returns-clause-begins c = λ m whole. sym (begins c.args.self.now.limits c.args.self.now.bytes.now c.args.self.now.validated.now c.requires.validated m whole)

pub returns-clause-stand : goal.returns-clause-stand
returns-clause-stand c = λ source m own whole.
    let w = c.args.self.now in
    let is = c.requires.validated in
    let noted = noted_there w.limits w.bytes.now w.validated.now is in
    rw (own.0, own.1) (body_there w.limits w.bytes.now w.validated.now is m whole c.signature-types.result.now (c.signature-types.ensures is.message.fields noted))
