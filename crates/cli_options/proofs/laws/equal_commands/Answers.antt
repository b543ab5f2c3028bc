use Rattle.cli_options.proofs.Selections.{commands_equal}
use Rattle.cli_options.proofs.laws.equal_commands.Goals as goal

pub returns : goal.returns
returns c =
    let e = c.eq.ensures in
    rw e (commands_equal c.args.a.now c.args.b.now)
