use Rattle.std.proofs.Common.{◌≡◌, sym, ap, ◌∙◌, arith}
use Rattle.dbus_types.specs.SignatureCodes.{first_code}
use Rattle.dbus_value_model.specs.Values.{ValueTree, MoreValues, type_of}
use Rattle.dbus_view.proofs.Numbered.{none_passed, all_passed, stands, one_passed, first}
use Rattle.dbus_view.proofs.arg.arg_at.Goals as goal

pub loop-number-init : goal.loop-number-init
loop-number-init c = record { passed = λ xs rest all. none_passed c.args.values xs rest all }

pub returns-in_err-_passed : goal.returns-in_err-_passed
returns-in_err-_passed c = λ xs rest all.
    let l = c.loop-number in
    let p = l.invariant.passed xs rest all in
    rw c.from_residual.ensures (all_passed c.args.values xs rest l._number l.left p c.args.n (c.in_err-_passed.ensures.steps.first p.us rest p.stand).0 (omega arith))

pub loop-number-preserved : goal.loop-number-preserved
loop-number-preserved c = record {
  passed = λ xs rest all.
      let l = c.loop-number in
      let p = l.invariant.passed xs rest all in
      let f = c.in_ok-_passed.ensures.steps.first p.us rest p.stand in
      let after = c.in_ok-_passed.ensures.steps.after f.0 f.1 rest (stands c.args.values xs rest l._number l.left p f.0 f.1 f.2) in
      one_passed c.args.values xs rest l._number l.left p f.0 f.1 f.2 c.next.new.self after f.4;
}

pub returns-in_err-code : goal.returns-in_err-code
returns-in_err-code c = λ xs rest all.
    let l = c.loop-number in
    let p = l.invariant.passed xs rest all in
    rw c.from_residual-in_err-code.ensures (all_passed c.args.values xs rest l._number l.left p c.args.n (c.in_err-code.ensures p.us rest p.stand) (omega arith))

pub returns-in_err-seen : goal.returns-in_err-seen
returns-in_err-seen c = λ xs rest all.
    let l = c.loop-number in
    let p = l.invariant.passed xs rest all in
    rw c.from_residual-in_err-seen.ensures (all_passed c.args.values xs rest l._number l.left p c.args.n (c.in_err-seen.ensures.steps.first p.us rest p.stand).0 (omega arith))

pub returns : goal.returns
returns c = λ xs rest all.
    let l = c.loop-number in
    let p = l.invariant.passed xs rest all in
    let coded = c.in_ok-code.ensures p.us rest p.stand in
    let f = c.in_ok-seen.ensures.steps.first p.us rest p.stand in
    let after = c.in_ok-seen.ensures.steps.after f.0 f.1 rest (stands c.args.values xs rest l._number l.left p f.0 f.1 f.2) in
    let both : MoreValues f.0 f.1 ≡ MoreValues coded.0 coded.1 = sym f.2 ∙ coded.2 in
    let same : f.0 ≡ coded.0 = cc in
    let code = ap (λ (x : ValueTree). first_code (type_of x)) same ∙ coded.3 in
    first c.args.values xs rest l._number l.left p f.0 f.1 f.2 c.next-2.new.self after c.args.n (omega arith) (record { after = c.at.result; code = c.in_ok-code.code; seen = c.in_ok-seen.seen }) c.at.ensures code f.3
