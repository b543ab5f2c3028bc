use Rattle.std.proofs.Common.{◌≡◌, ℕ, ◌+◌, ◌<◌, List, ◌++◌, length, take, refl, ◌∙◌, subst}
use Rattle.std.proofs.Math.Path.{transport}
use Rattle.std.proofs.lemmas.List.{take_all}
use Rattle.dbus_check.specs.Checks.{Stands}
use Rattle.dbus_header.specs.MessageOutcomes.{IsPartial, IsRefused, IsWhole}
use Rattle.dbus_value_model.specs.declared.limits.Limits.{Limits}
use Rattle.cli_report.proofs.FaultFronts.{front_here, front_partial, front_whole, piece_here}
use Rattle.cli_report.proofs.fault_front.fault_front.Goals as goal

pub loop-at-init : goal.loop-at-init
loop-at-init c = record { stands = c.take_before_fault-near.ensures.stands; limits_are = c.take_before_fault-near.ensures.limits ∙ c.within-checker.ensures.limits; unshown = subst (λ (l : Limits). IsPartial l (take c.take_before_fault-near.result c.args.bytes.now)) c.within-checker.ensures.limits c.take_before_fault-near.ensures.unshown }

pub returns-in-Done : goal.returns-in-Done
returns-in-Done c =
    let i = c.loop-at.invariant in
    let bytes = c.args.bytes.now in
    let w = c.in-Done.ensures.answers (take c.loop-at.at bytes) i.stands in
    front_whole c.args.limits bytes (c.loop-at.at + 1) _ w.1 w.2 (transport (λ j. IsWhole (i.limits_are j) (piece_here bytes c.loop-at.at c.loop-at-test.true j) w.1 w.2 (length (take c.loop-at.at bytes) + c.in-Done.field-0)) w.3)

pub returns-in-Refused : goal.returns-in-Refused
returns-in-Refused c =
    let i = c.loop-at.invariant in
    let bytes = c.args.bytes.now in
    front_here c.args.limits bytes c.loop-at.at c.in-Refused.field-0 c.loop-at-test.true i.unshown
    (transport (λ j. IsRefused (i.limits_are j) (piece_here bytes c.loop-at.at c.loop-at-test.true j) c.in-Refused.field-0) (c.in-Refused.ensures.answers (take c.loop-at.at bytes) i.stands))

pub loop-at-preserved : goal.loop-at-preserved
loop-at-preserved c =
    let i = c.loop-at.invariant in
    let bytes = c.args.bytes.now in
    let joined = piece_here bytes c.loop-at.at c.loop-at-test.true in
    record {
      stands = subst (λ (l : List ℕ). Stands c.take.new.self l) joined (c.in-Partial.ensures.stands (take c.loop-at.at bytes) i.stands);
      limits_are = c.take.ensures.limits ∙ i.limits_are;
      unshown = transport (λ j. IsPartial (i.limits_are j) (joined j)) (c.in-Partial.ensures.answers (take c.loop-at.at bytes) i.stands);
    }

pub returns : goal.returns
returns c = front_partial c.args.limits c.args.bytes.now (subst (λ (l : List ℕ). IsPartial c.args.limits l) (take_all c.loop-at.at c.args.bytes.now c.loop-at-test.false) c.loop-at.invariant.unshown)
