use Rattle.std.proofs.Common.{None, false, inr, sym, subst}
use Rattle.cli_options.specs.declared.command.Command.{Command}
use Rattle.cli_report.specs.Devices.{reading, writing}
use Rattle.cli_run.specs.Learning.{known}
use Rattle.cli_run.specs.Output.{is_check}
use Rattle.cli_run.specs.Running.{RunsWith}
use Rattle.cli_run.specs.Rendering.{Makes, first_state}
use Rattle.cli_run.specs.RenderingLaws.{nothing}
use Rattle.cli_run.proofs.EndSteps.{unread}
use Rattle.cli_run.proofs.running.run_with.Goals as goal

pub returns-in_default : goal.returns-in_default
returns-in_default g c =
    let start = first_state c.args.command c.args.settings.window in
    inr (unread Makes start _ (is_check c.args.command.output) g.R.Source.left g.R.Source.calls g.R.Source.failures g.R.Source.packets c.args.reader.now g.W.Sink.held g.W.Sink.failures c.args.first.now g.E.Sink.held g.E.Sink.failures c.args.second.now c.give_up.new.second
    c.args.settings c.args.reads c.give_up.result (nothing start) c.give_up.ensures.failed c.give_up.ensures.told)

pub returns : goal.returns
returns g c =
    let own = c.in-Ok.ensures in
    let window = c.args.settings.window in
    c.run_by.ensures (first_state c.args.command window)
    (λ i. record { command = record { output = c.args.command.output; selection = sym own i }; window = window; begun = false; owners = known (sym own i) None }) (λ items. tt)

pub returns-then-not-ask_more : goal.returns-then-not-ask_more
returns-then-not-ask_more g c =
    let is = c.only_checks.ensures c.if-only_checks.true in
    subst (λ (k : Command). RunsWith (reading g.R.Source.left g.R.Source.calls g.R.Source.failures g.R.Source.packets c.args.reader.now c.check.new.reader) (writing g.W.Sink.held g.W.Sink.failures c.args.first.now c.check.new.first)
    (writing g.E.Sink.held g.E.Sink.failures c.args.second.now c.check.new.second) c.args.settings c.args.reads k c.check.result) (sym is) c.check.ensures
