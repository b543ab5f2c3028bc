use Rattle.std.proofs.Common.{ℕ, drop, refl, ap, ◌∙◌}
use Rattle.dbus_value_model.specs.declared.fault.Reason.TheVariants as reasons
use Rattle.dbus_value_model.specs.Reading.{Done}
use Rattle.dbus_header.specs.MessageItems.{version_row}
use Rattle.dbus_value_laws.proofs.ReadSteps.{number_passes, number_fails, number_stops}
use Rattle.dbus_header.proofs.Whole.{exits, other_version}
use Rattle.dbus_header.proofs.fixed_header.read_version.Goals as goal

pub returns-in_err-version-clause-gives : goal.returns-in_err-version-clause-gives
returns-in_err-version-clause-gives c order = exits (λ k. (1, 4)) c.args.bytes.now c.from_residual.result _ _ c.from_residual.ensures.1
    (number_stops order 1 16 version_row 3 (drop 3 c.args.bytes.now) _ (c.in_err-version.ensures.gives order))

pub returns-then-version-ne1-clause-gives : goal.returns-then-version-ne1-clause-gives
returns-then-version-ne1-clause-gives c order = rw c.refuse.ensures
    (number_fails order 1 16 version_row 3 (drop 3 c.args.bytes.now) _ _ _ (c.in_ok-version.ensures.gives order) reasons.Version (other_version 4 _ c.if-version-ne1.true))

pub returns-clause-gives : goal.returns-clause-gives
returns-clause-gives c order =
    number_passes order 1 16 version_row 3 (drop 3 c.args.bytes.now) 1 4 _ (c.in_ok-version.ensures.gives order ∙ ap (λ (n : ℕ). Done n 4 (drop 4 c.args.bytes.now)) c.if-version-ne1.false) refl
