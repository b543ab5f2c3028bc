use Rattle.std.proofs.Common.{◌≡◌, ℕ, subst, sym, arith}
use Rattle.dbus_value_model.specs.declared.limits.Limits.{Limits}
use Rattle.dbus_header.specs.MessageOutcomes.{IsRefused}
use Rattle.dbus_check.specs.declared.check.Check.{Check}
use Rattle.dbus_c.specs.Checking.{IsChecked, answer_of}
use Rattle.dbus_c.specs.Explaining.{AreWholeFlat}
use Rattle.dbus_c.specs.GivenLimits.{limits_of}
use Rattle.dbus_c.proofs.FaultsTold.{told_checked}
use Rattle.dbus_c.proofs.whole_parts.dbus_wire_flatten_whole.Goals as goal

pub returns-in-Done-clause-checked : goal.returns-in-Done-clause-checked
returns-in-Done-clause-checked c =
    subst (λ (l : Limits). IsChecked l c.args.bytes.now 0 c.check_all.new.out) c.given_limits.ensures
    (subst (λ (x : Check). IsChecked c.given_limits.result c.args.bytes.now (answer_of x) c.check_all.new.out) c.in-Done.is c.check_all.ensures.checked)

pub returns-in-Partial-clause-checked : goal.returns-in-Partial-clause-checked
returns-in-Partial-clause-checked c =
    subst (λ (l : Limits). IsChecked l c.args.bytes.now 1 c.check_all.new.out) c.given_limits.ensures
    (subst (λ (x : Check). IsChecked c.given_limits.result c.args.bytes.now (answer_of x) c.check_all.new.out) c.in-Partial.is c.check_all.ensures.checked)

pub returns-in-Done-clause-refused : goal.returns-in-Done-clause-refused
returns-in-Done-clause-refused c = λ fault is. let wrong : 0 ≡ 2 = ((returns-in-Done-clause-checked c).exact.refused fault is).0 in absurd (omega (arith, wrong))

pub returns-in-Partial-clause-refused : goal.returns-in-Partial-clause-refused
returns-in-Partial-clause-refused c = λ fault is. let wrong : 1 ≡ 2 = ((returns-in-Partial-clause-checked c).exact.refused fault is).0 in absurd (omega (arith, wrong))

pub returns-in-Refused-clause-checked : goal.returns-in-Refused-clause-checked
returns-in-Refused-clause-checked c =
    let refused =
    subst (λ (l : Limits). IsChecked l c.args.bytes.now 2 c.check_all.new.out) c.given_limits.ensures
    (subst (λ (x : Check). IsChecked c.given_limits.result c.args.bytes.now (answer_of x) c.check_all.new.out) c.in-Refused.is c.check_all.ensures.checked) in
    subst (λ (n : ℕ). IsChecked (limits_of c.args.limits.now) c.args.bytes.now n c.check_all.new.out) (sym (told_checked c.tell_count.result c.tell_count.ensures.told)) refused

pub returns-in-Refused-clause-refused : goal.returns-in-Refused-clause-refused
returns-in-Refused-clause-refused c = λ fault is. c.tell_count.ensures.told

pub returns-in-Refused-clause-flat : goal.returns-in-Refused-clause-flat
returns-in-Refused-clause-flat c = λ told.
    let fault = c.in-Refused.fault in (
      fault,
      subst (λ (l : Limits). IsRefused l c.args.bytes.now fault) c.given_limits.ensures (c.check_all.ensures.refused fault c.in-Refused.is),
      subst (λ (k : ℕ). AreWholeFlat c.args.bytes.now fault c.args.first c.args.items.now c.flatten_before-whole.new.items (record { fields = c.flatten_before-whole.result.fields; all = k })) (sym c.tell_count.ensures.counted) c.flatten_before-whole.ensures,
    )

pub returns-in-Refused-clause-unchanged : goal.returns-in-Refused-clause-unchanged
returns-in-Refused-clause-unchanged c = λ none. absurd (none c.tell_count.ensures.told)
