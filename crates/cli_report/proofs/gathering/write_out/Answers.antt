use Rattle.std.proofs.Common.{[], sym, ◌∙◌, append-nil}
use Rattle.cli_report.specs.Gathering.{gathered_bytes}
use Rattle.cli_report.proofs.GatherSteps.{gathers_some}
use Rattle.cli_report.proofs.gathering.write_out.Goals as goal

pub returns-clause-gathers : goal.returns-clause-gathers
returns-clause-gathers g c =
    gathers_some g.W.Sink.held g.W.Sink.failures c.as_slice.result.now [] (gathered_bytes c.args.gathered.now) (gathered_bytes c.clear.new.self) c.args.first.now c.write_some-written.new.first c.write_some-written.result
    (append-nil (gathered_bytes c.args.gathered.now) ∙ sym c.as_slice.ensures) c.clear.ensures c.write_some-written.ensures
