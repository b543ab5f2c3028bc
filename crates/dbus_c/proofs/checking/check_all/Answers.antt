use Rattle.std.proofs.Common.{[], subst}
use Rattle.dbus_check.specs.Checks.{Takes}
use Rattle.dbus_check.specs.declared.check.Check.{Check}
use Rattle.dbus_check.specs.declared.check.Check.TheVariants as check
use Rattle.dbus_c.proofs.Telling.{outcome_of, begins, some_there, done_checked, partial_checked, refused_checked}
use Rattle.dbus_c.proofs.checking.check_all.Goals as goal

pub whole_told-requires : goal.whole_told-requires
whole_told-requires c =
    let limits = c.args.limits in
    let h = begins limits c.args.bytes.now c.in-Done.count (outcome_of c.within-checker.result limits c.args.bytes.now (check.Done c.in-Done.count) c.within-checker.ensures.stands c.within-checker.ensures.limits c.in-Done.ensures.answers) in
    some_there limits c.args.bytes.now c.in-Done.count h

pub returns-in-Done-clause-checked : goal.returns-in-Done-clause-checked
returns-in-Done-clause-checked c =
    let limits = c.args.limits in
    let h = begins limits c.args.bytes.now c.in-Done.count (outcome_of c.within-checker.result limits c.args.bytes.now (check.Done c.in-Done.count) c.within-checker.ensures.stands c.within-checker.ensures.limits c.in-Done.ensures.answers) in
    done_checked limits c.args.bytes.now c.in-Done.count c.whole_told.result h c.whole_told.ensures

pub returns-in-Partial-clause-checked : goal.returns-in-Partial-clause-checked
returns-in-Partial-clause-checked c =
    let limits = c.args.limits in
    let h = outcome_of c.within-checker.result limits c.args.bytes.now check.Partial c.within-checker.ensures.stands c.within-checker.ensures.limits c.in-Partial.ensures.answers in
    partial_checked limits c.args.bytes.now c.nothing_told.result h c.nothing_told.ensures

pub returns-in-Refused-clause-checked : goal.returns-in-Refused-clause-checked
returns-in-Refused-clause-checked c =
    let limits = c.args.limits in
    let h = outcome_of c.within-checker.result limits c.args.bytes.now (check.Refused c.in-Refused.fault) c.within-checker.ensures.stands c.within-checker.ensures.limits c.in-Refused.ensures.answers in
    refused_checked limits c.args.bytes.now c.in-Refused.fault c.fault_told.result h c.fault_told.ensures

pub returns-in-Refused-clause-refused : goal.returns-in-Refused-clause-refused
returns-in-Refused-clause-refused c = λ fault is.
    let limits = c.args.limits in
    let h = outcome_of c.within-checker.result limits c.args.bytes.now (check.Refused c.in-Refused.fault) c.within-checker.ensures.stands c.within-checker.ensures.limits c.in-Refused.ensures.answers in
    subst (λ (answer : Check). Takes limits [] c.args.bytes.now answer) is h
