use Rattle.std.proofs.Common.{ℕ, sym, subst}
use Rattle.clap.specs.Words.{found_of, one_of, rows_of}
use Rattle.cli_options.specs.Limiting.{IsNumberOf}
use Rattle.cli_options.proofs.Numbers.{number_or, no_number}
use Rattle.cli_options.proofs.limits_named.number_named.Goals as goal

pub returns-in-Some : goal.returns-in-Some
returns-in-Some c =
    subst (λ (n : ℕ). IsNumberOf (one_of c.args.name.now (rows_of (found_of c.args.inner.now))) c.args.most n) (sym c.unwrap_or.ensures)
    (number_or (one_of c.args.name.now (rows_of (found_of c.args.inner.now))) c.args.most c.in-Some.given c.in-Some.ensures)

pub returns-in-None : goal.returns-in-None
returns-in-None c = no_number (one_of c.args.name.now (rows_of (found_of c.args.inner.now))) c.args.most c.in-None.ensures
