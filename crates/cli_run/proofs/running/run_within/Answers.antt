use Rattle.std.proofs.Common.{refl}
use Rattle.cli_report.specs.Devices.{reading, writing}
use Rattle.cli_run.proofs.RunSteps.{plainly}
use Rattle.cli_run.proofs.running.run_within.Goals as goal

pub returns : goal.returns
returns g c =
    plainly (reading g.R.Source.left g.R.Source.calls g.R.Source.failures g.R.Source.packets c.args.reader.now c.run_with.new.reader) (writing g.W.Sink.held g.W.Sink.failures c.args.first.now c.run_with.new.first)
    (writing g.E.Sink.held g.E.Sink.failures c.args.second.now c.run_with.new.second) _ refl c.args.reads c.args.command c.run_with.result c.run_with.ensures
