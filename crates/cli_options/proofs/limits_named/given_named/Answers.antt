use Rattle.std.proofs.Common.{sym, subst}
use Rattle.std.specs.Str.Parse.{ParsesUnsigned, ExplainsUnsignedError, HasUnsignedDigitsIfOk}
use Rattle.clap.specs.Words.{found_of, one_text}
use Rattle.clap.proofs.WalkLemmas.{one_text-rows}
use Rattle.cli_options.specs.Limiting.{IsGivenNumber}
use Rattle.cli_options.proofs.Numbers.{number_read, number_unread}
use Rattle.cli_options.proofs.limits_named.given_named.Goals as goal

pub returns-in-Ok : goal.returns-in-Ok
returns-in-Ok c =
    subst (λ given. IsGivenNumber given c.in-Ok.given) (one_text-rows (found_of c.args.inner.now) c.args.name.now)
    (number_read (λ bs r. ParsesUnsigned 32 10 bs r × ExplainsUnsignedError 10 bs r × HasUnsignedDigitsIfOk bs r) (λ text r given. given.0)
    (one_text (found_of c.args.inner.now) c.args.name.now) c.in-Ok.given c.in-Ok.ensures.none c.in-Ok.ensures.value)

pub returns-in-Err : goal.returns-in-Err
returns-in-Err c number is =
    number_unread (λ bs r. ParsesUnsigned 32 10 bs r × ExplainsUnsignedError 10 bs r × HasUnsignedDigitsIfOk bs r) (λ text r given. given.0)
    (one_text (found_of c.args.inner.now) c.args.name.now) c.in-Err.field-0 c.in-Err.ensures.none c.in-Err.ensures.value number
    (subst (λ given. IsGivenNumber given number) (sym (one_text-rows (found_of c.args.inner.now) c.args.name.now)) is)
