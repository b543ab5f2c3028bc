use Rattle.std.proofs.Common.{[]}
use Rattle.cli_report.specs.Gathering.{gathered_bytes}
use Rattle.cli_report.specs.PageLaws.{breaks_more}
use Rattle.cli_report.proofs.GatherSteps.{gathers_then}
use Rattle.cli_report.proofs.gathering.write_after.Goals as goal

pub returns-in-Ok : goal.returns-in-Ok
returns-in-Ok g c =
    gathers_then g.W.Sink.held g.W.Sink.failures c.args.bytes.now (gathered_bytes c.args.gathered.now) (gathered_bytes c.write_out.new.gathered) c.args.first.now c.write_out.new.first c.write_some.new.first c.write_some.result
    c.in-Ok.ensures.emptied c.in-Ok.ensures.gathers c.write_some.ensures

pub returns-in-Err : goal.returns-in-Err
returns-in-Err g c =
    breaks_more g.W.Sink.held g.W.Sink.failures [] c.args.bytes.now (gathered_bytes c.args.gathered.now) c.args.first.now c.write_out.new.first c.in-Err.ensures.gathers
