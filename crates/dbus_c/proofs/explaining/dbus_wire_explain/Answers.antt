use Rattle.std.proofs.Common.{◌≡◌, ℕ, refl, subst, sym, arith}
use Rattle.dbus_value_model.specs.declared.limits.Limits.{Limits}
use Rattle.dbus_header.specs.MessageOutcomes.{IsRefused}
use Rattle.dbus_check.specs.declared.check.Check.{Check}
use Rattle.dbus_c.specs.Checking.{IsChecked, answer_of}
use Rattle.dbus_c.specs.GivenLimits.{limits_of}
use Rattle.dbus_c.proofs.FaultsTold.{explained_checked, explained_told}
use Rattle.dbus_c.proofs.explaining.dbus_wire_explain.Goals as goal

pub returns-in-Done-clause-checked : goal.returns-in-Done-clause-checked
returns-in-Done-clause-checked c =
    subst (λ (l : Limits). IsChecked l c.args.bytes.now 0 c.check_all.new.out) c.given_limits.ensures
    (subst (λ (x : Check). IsChecked c.given_limits.result c.args.bytes.now (answer_of x) c.check_all.new.out) c.in-Done.is c.check_all.ensures.checked)

pub returns-in-Partial-clause-checked : goal.returns-in-Partial-clause-checked
returns-in-Partial-clause-checked c =
    subst (λ (l : Limits). IsChecked l c.args.bytes.now 1 c.check_all.new.out) c.given_limits.ensures
    (subst (λ (x : Check). IsChecked c.given_limits.result c.args.bytes.now (answer_of x) c.check_all.new.out) c.in-Partial.is c.check_all.ensures.checked)

pub returns-in-Done-clause-refused : goal.returns-in-Done-clause-refused
returns-in-Done-clause-refused c = λ fault is. let wrong : 0 ≡ 2 = ((returns-in-Done-clause-checked c).exact.refused fault is).0 in absurd (omega (arith, wrong))

pub returns-in-Partial-clause-refused : goal.returns-in-Partial-clause-refused
returns-in-Partial-clause-refused c = λ fault is. let wrong : 1 ≡ 2 = ((returns-in-Partial-clause-checked c).exact.refused fault is).0 in absurd (omega (arith, wrong))

pub returns-in-Refused-clause-checked : goal.returns-in-Refused-clause-checked
returns-in-Refused-clause-checked c =
    let is = c.write_explained.ensures in
    let refused =
    subst (λ (l : Limits). IsChecked l c.args.bytes.now 2 c.check_all.new.out) c.given_limits.ensures
    (subst (λ (x : Check). IsChecked c.given_limits.result c.args.bytes.now (answer_of x) c.check_all.new.out) c.in-Refused.is c.check_all.ensures.checked) in
    subst (λ (n : ℕ). IsChecked (limits_of c.args.limits.now) c.args.bytes.now n c.check_all.new.out) (sym (explained_checked _ _ _ _ _ is)) refused

pub returns-in-Refused-clause-refused : goal.returns-in-Refused-clause-refused
returns-in-Refused-clause-refused c = λ fault is. explained_told _ _ _ _ _ c.write_explained.ensures

pub returns-in-Refused-clause-explained : goal.returns-in-Refused-clause-explained
returns-in-Refused-clause-explained c = λ told.
    let fault = c.in-Refused.fault in (
      _,
      record {
        bytes_are = refl;
        fault = subst (λ (l : Limits). IsRefused l c.args.bytes.now fault) c.given_limits.ensures (c.check_all.ensures.refused fault c.in-Refused.is);
        number_is = refl;
        offset_is = refl;
      },
      c.write_explained.ensures,
    )

pub returns-in-Refused-clause-unchanged : goal.returns-in-Refused-clause-unchanged
returns-in-Refused-clause-unchanged c = λ none. absurd (none (explained_told _ _ _ _ _ c.write_explained.ensures))
