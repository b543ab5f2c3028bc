use Rattle.std.proofs.Common.{sym, ap, ◌∙◌}
use Rattle.dbus_validate.proofs.SeenSteps.{text_at, signature_there}
use Rattle.dbus_validate.proofs.seen.FieldPlaces.signature.Goals as goal

pub returns-in-Some : goal.returns-in-Some
returns-in-Some c = λ fs noted. c.text.ensures ∙ ap (text_at c.args.bytes.now) c.in-Some.ensures ∙ sym (signature_there c.args.bytes.now fs c.args.self.now noted)

pub returns-in-None : goal.returns-in-None
returns-in-None c = λ fs noted. ap (text_at c.args.bytes.now) c.in-None.ensures ∙ sym (signature_there c.args.bytes.now fs c.args.self.now noted)
