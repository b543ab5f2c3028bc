use Rattle.std.proofs.Common.{◌∙◌}
use Rattle.clap.specs.Words.{found_of}
use Rattle.clap.proofs.WalkLemmas.{first_value-rows}
use Rattle.cli_options.proofs.Numbers.{flag_told}
use Rattle.cli_options.proofs.command_line.is_given.Goals as goal

pub returns : goal.returns
returns c = flag_told c.get_str.result c.is_true.result _ (c.get_str.ensures ∙ first_value-rows (found_of c.args.inner.now) c.args.name.now) c.is_true.ensures
