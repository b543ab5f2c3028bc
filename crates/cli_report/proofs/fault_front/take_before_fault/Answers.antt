use Rattle.std.proofs.Common.{ℕ, ◌≤◌, List, [], length, take, sym, ◌∙◌, subst, arith}
use Rattle.std.proofs.lemmas.List.{take_all}
use Rattle.dbus_value_model.specs.declared.limits.Limits.{Limits}
use Rattle.dbus_check.specs.Checks.{Stands, limits_of}
use Rattle.dbus_header.specs.MessageOutcomes.{IsPartial}
use Rattle.dbus_header.proofs.OutcomeLaws.{nothing_partial}
use Rattle.cli_report.proofs.fault_front.take_before_fault.Goals as goal

pub returns-in-Partial-clause-stands : goal.returns-in-Partial-clause-stands
returns-in-Partial-clause-stands c =
    let bytes = c.args.bytes.now in
    subst (λ (l : List ℕ). Stands c.take.new.self l) (sym (take_all (length bytes) bytes (omega arith))) (c.in-Partial.ensures.stands [] c.requires.fresh)

pub returns-in-Partial-clause-unshown : goal.returns-in-Partial-clause-unshown
returns-in-Partial-clause-unshown c =
    let bytes = c.args.bytes.now in
    subst (λ (l : List ℕ). IsPartial (limits_of c.args.checker.now) l) (sym (take_all (length bytes) bytes (omega arith))) (c.in-Partial.ensures.answers [] c.requires.fresh)

pub returns-in-Partial-take-clause-stands : goal.returns-in-Partial-take-clause-stands
returns-in-Partial-take-clause-stands c = c.in-Partial-take.ensures.stands [] c.restart.ensures.stands

pub returns-in-Partial-take-clause-unshown : goal.returns-in-Partial-take-clause-unshown
returns-in-Partial-take-clause-unshown c =
    subst (λ (l : Limits). IsPartial l (take c.min-n.result c.args.bytes.now)) (c.restart.ensures.limits ∙ c.take.ensures.limits) (c.in-Partial-take.ensures.answers [] c.restart.ensures.stands)

pub returns : goal.returns
returns c = record {
  inside = omega arith;
  stands = c.restart-2.ensures.stands;
  limits = c.restart-2.ensures.limits ∙ (c.take-2.ensures.limits ∙ (c.restart.ensures.limits ∙ c.take.ensures.limits));
  unshown = nothing_partial (limits_of c.args.checker.now);
}
