use Rattle.std.proofs.Common.{ap, ◌∙◌}
use Rattle.std.specs.Option.{is_some}
use Rattle.dbus_validate.proofs.SeenSteps.{has_noted}
use Rattle.dbus_c_build.proofs.SameFields.{is_kept, noted}
use Rattle.dbus_c_build.proofs.given.Given.has.Goals as goal

pub returns-in-Some : goal.returns-in-Some
returns-in-Some c = λ order fs kept known.
    let given = c.args.self.now in
    let j = c.in-Some.validated in
    let seen = noted given.limits given.bytes.now order j fs (is_kept given order fs kept j c.in-Some.is) in
    c.is_some.ensures ∙ ap is_some c.get.ensures ∙ has_noted fs _ j.fields seen c.args.code known
