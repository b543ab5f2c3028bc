use Rattle.std.proofs.Common.{refl}
use Rattle.cli_run.proofs.WriterSteps.{lets_go}
use Rattle.cli_run.proofs.output_writer.OutputWriterMessageVisitor.settle.Goals as goal

pub returns-clause-lets_go : goal.returns-clause-lets_go
returns-clause-lets_go g c =
    lets_go g.C.Renderer.stands g.C.Renderer.makes g.C.Renderer.follows g.C.Renderer.silent g.W.Sink.held g.W.Sink.failures g.E.Sink.held g.E.Sink.failures g.met.C.Renderer.nothing c.args.self.now _ refl refl refl refl c.write_out.result c.write_out.ensures.gathers
