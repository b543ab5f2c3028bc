use Rattle.std.proofs.Common.{◌≡◌, Option, Some, None, option_map, refl, ap, codes}
use Rattle.std.proofs.lemmas.Result.{err_from_is_err_and}
use Rattle.clap.specs.Words.{Text, found_of, rows_of}
use Rattle.dbus_value_model.specs.Specification.{specification}
use Rattle.dbus_value_model.specs.declared.fd_rule.FdRule.{FdRule}
use Rattle.cli_options.specs.Limiting.{HasLimits, IsRuleOf}
use Rattle.cli_options.specs.Worded.{HasWord, fds_word}
use Rattle.cli_options.proofs.Tells.{part_told}
use Rattle.cli_options.proofs.limits_named.limits_named.Goals as goal

-- the rule that the option is given, if it is, is that of a word
of_rule : (given : Option Text) (default rule : FdRule) → IsRuleOf given default rule → (word : Option FdRule) × (given ≡ option_map fds_word word)
of_rule None default rule is = (None, refl)
of_rule (Some word) default rule is = (Some rule, ap Some is)

pub returns-in_err-fds : goal.returns-in_err-fds
returns-in_err-fds c =
    let rows = rows_of (found_of c.args.inner.now) in
    let p = err_from_is_err_and c.from_residual.result c.from_residual.ensures.1 in
    rw (p.1, p.2) (part_told (HasWord fds_word (codes "fds") rows) (HasLimits rows) (λ limits has. of_rule _ _ limits.fds has.fds) c.in_err-fds.field-0.0 c.in_err-fds.ensures)
