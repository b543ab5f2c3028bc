-- Two runs that encode one input end alike.
use Rattle.std.proofs.Common.{◌≡◌, ◌≢◌, ℕ, Bool, true, false, List, [], refl, sym, ap, ◌∙◌, subst, inl, inr, ◌++◌}
use Rattle.dbus_device.specs.Device.{Wrote}
use Rattle.dbus_lines.proofs.LineLaws.{one_list}
use Rattle.cli_report.specs.Devices.{Reading, Writing, taken}
use Rattle.cli_report.specs.declared.ending.ExitStatus.{ExitStatus}
use Rattle.cli_report.specs.declared.ending.ExitStatus.TheVariants as status
use Rattle.cli_encode.specs.Outcomes.{Outcome, all_bytes, all_text, any_refused}
use Rattle.cli_encode.specs.Runs.{Answers, EncodesLines, status_of}
use Rattle.cli_encode.specs.declared.encoding.Encoding.{Encoding}
use Rattle.cli_encode_laws.specs.OneEncoding.{OneEncoding}
use Rattle.cli_encode_laws.proofs.Outcomes.{none_told, of_input, same_bytes, same_outcomes, same_refused}

-- a run that did not fail answered
pub answered : {R W E : Type 0} (r : Reading R) (w : Writing W) (e : Writing E) (encoding : Encoding) (most : ℕ) (end : ExitStatus) → end ≢ status.Failed → EncodesLines r w e encoding most end → Answers r w e encoding most end
answered r w e encoding most end done (inl answers) = answers
answered r w e encoding most end done (inr gave_up) = absurd (done gave_up.failed)

done_none : (refused : Bool) → status_of refused ≡ status.Done → refused ≡ false
done_none false e = refl
done_none true e = absurd cc

pub one_encoding : (R S W V E F : Type 0) → OneEncoding R S W V E F
one_encoding R S W V E F r s w v e f encoding most more end other input done other_done runs ran =
    let a = answered r w e encoding most end done runs in
    let b = answered s v f encoding more other other_done ran in
    let x = of_input (taken r) w e encoding most a.refused a.all input.0 input.2 in
    let y = of_input (taken s) v f encoding more b.refused b.all input.0 input.3 in
    let lines = one_list input.0 (a.all.came.lines ++ x.more) (b.all.came.lines ++ y.more) x.cut y.cut in
    let same = same_outcomes encoding encoding.keeps_going a.all.came.lines b.all.came.lines x.more y.more a.all.outcomes b.all.outcomes lines a.all.came.are b.all.came.are x.over a.all.came.ends y.over b.all.came.ends in
    record {
      status_is = b.status_is ∙ ap status_of (b.all.refused_is ∙ sym (same_refused a.all.outcomes b.all.outcomes same) ∙ sym a.all.refused_is) ∙ sym a.status_is;
      first = (all_bytes a.all.outcomes, a.all.first, subst (λ (bytes : List ℕ). Wrote v.held v.failures v.old bytes v.new) (sym (same_bytes a.all.outcomes b.all.outcomes same)) b.all.first);
      second = λ is.
          let none : any_refused a.all.outcomes ≡ false = sym a.all.refused_is ∙ done_none a.refused (sym a.status_is ∙ is) in
          let none_too : any_refused b.all.outcomes ≡ false = sym (same_refused a.all.outcomes b.all.outcomes same) ∙ none in
          ([], subst (λ (text : List ℕ). Wrote e.held e.failures e.old text e.new) (none_told 1 a.all.outcomes none) a.all.second, subst (λ (text : List ℕ). Wrote f.held f.failures f.old text f.new) (none_told 1 b.all.outcomes none_too) b.all.second);
    }
