use Rattle.std.proofs.Common.{sym, subst}
use Rattle.std.proofs.lemmas.List.{length-take-le}
use Rattle.dbus_value_model.specs.declared.limits.Limits.{Limits}
use Rattle.dbus_validate.proofs.Headed.{own_validated}
use Rattle.dbus_validate.proofs.WholeParts.{inside}
use Rattle.dbus_validate.specs.Validating.{IsValidated}
use Rattle.dbus_c.specs.GivenLimits.{limits_of}
use Rattle.dbus_c.specs.Outcomes.{IsFirstView}
use Rattle.dbus_c.proofs.Outcomes.{front_viewed}
use Rattle.dbus_c.proofs.checking.first_view.Goals as goal

pub slice_bounds-message-end : goal.slice_bounds-message-end
slice_bounds-message-end c = sym (length-take-le _ _ (inside (limits_of c.args.limits.now) c.args.bytes.now c.args.validated c.requires.validated))

pub of_validated-requires : goal.of_validated-requires
of_validated-requires c =
    let is = subst (λ (l : Limits). IsValidated l c.args.bytes.now c.args.validated) (sym c.given_limits.ensures) c.requires.validated in
    let own = own_validated c.given_limits.result c.args.bytes.now c.args.validated is in
    record { validated = own.validated; all = own.all }

pub returns : goal.returns
returns c =
    let is = subst (λ (l : Limits). IsValidated l c.args.bytes.now c.args.validated) (sym c.given_limits.ensures) c.requires.validated in
    let viewed = front_viewed c.given_limits.result c.args.bytes.now c.args.validated c.of_validated.result is c.of_validated.ensures.viewed in
    record { viewed = subst (λ (l : Limits). IsFirstView l c.args.bytes.now c.of_validated.result) c.given_limits.ensures viewed }
