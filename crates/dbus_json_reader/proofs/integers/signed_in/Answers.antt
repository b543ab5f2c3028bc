use Rattle.std.proofs.Common.{suc, refl, arith}
use Rattle.dbus_json_reader.proofs.Decimals.{too_large, no_size, other_size}
use Rattle.dbus_json_reader.proofs.integers.signed_in.Goals as goal

pub returns-then-number-clause-none : goal.returns-then-number-clause-none
returns-then-number-clause-none c = λ none z fits same. too_large c.args.text.now c.in_ok-number.number c.in_ok-number.ensures.some (omega arith) (omega (arith, c.if-number.true)) z fits same

pub returns-in_err-size-clause-none : goal.returns-in_err-size-clause-none
returns-in_err-size-clause-none c = λ none z fits same. no_size c.args.text.now c.if-text-ne45.false (λ n few is. c.in_err-size.ensures.none refl (suc n) (omega (arith, few)) is) z fits same

pub returns-then-size-eq0-clause-none : goal.returns-then-size-eq0-clause-none
returns-then-size-eq0-clause-none c = λ none z fits same. no_size c.args.text.now c.if-text-ne45.false (other_size _ c.in_ok-size.size c.in_ok-size.ensures.some (omega arith) (λ n few is. omega (arith, is, c.if-size-eq0.true))) z fits same

pub returns-then-size-clause-none : goal.returns-then-size-clause-none
returns-then-size-clause-none c = λ none z fits same. no_size c.args.text.now c.if-text-ne45.false (other_size _ c.in_ok-size.size c.in_ok-size.ensures.some (omega arith) (λ n few is. omega (arith, is, few, c.if-size.true))) z fits same
