use Rattle.std.proofs.Common.{sym}
use Rattle.std.proofs.lemmas.List.{length-take-le}
use Rattle.dbus_validate.proofs.WholeParts.{inside, fields_there}
use Rattle.dbus_validate.proofs.whole.Whole.source.Goals as goal

pub slice_bounds-result-end : goal.slice_bounds-result-end
slice_bounds-result-end c = sym (length-take-le _ _ (inside c.args.self.now.limits c.args.self.now.bytes.now c.args.self.now.validated.now c.requires.validated))

pub returns-clause-fields : goal.returns-clause-fields
returns-clause-fields c = λ m whole. (_, fields_there c.args.self.now.limits c.args.self.now.bytes.now c.args.self.now.validated.now c.requires.validated m whole)
