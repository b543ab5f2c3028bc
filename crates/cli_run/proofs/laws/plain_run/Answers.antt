use Rattle.cli_report.specs.Devices.{reading, writing}
use Rattle.cli_run.proofs.RunSteps.{plainly}
use Rattle.cli_run.proofs.laws.plain_run.Goals as goal

pub returns : goal.returns
returns g c = λ settings most command r0 r1 w0 w1 e0 e1 end no_more runs.
    plainly (reading g.R.Source.left g.R.Source.calls g.R.Source.failures g.R.Source.packets r0 r1) (writing g.W.Sink.held g.W.Sink.failures w0 w1) (writing g.E.Sink.held g.E.Sink.failures e0 e1) settings no_more most command end runs
