use Rattle.std.proofs.Common.{sym}
use Rattle.std.proofs.lemmas.Result.{err_from_is_err_and}
use Rattle.dbus_c_build.proofs.lengths.check_lengths.Goals as goal

pub returns-in_err-check_length-clause-refused : goal.returns-in_err-check_length-clause-refused
returns-in_err-check_length-clause-refused c =
    let p = err_from_is_err_and c.from_residual.result c.from_residual.ensures.1 in
    rw (p.1, p.2) (λ kept. c.in_err-check_length.ensures.refused kept c.args.parts.now (sym c.in-Some.ensures) c.loop-code.invariant)
