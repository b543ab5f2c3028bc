use Rattle.std.proofs.Common.{refl, sym, ◌∙◌}
use Rattle.cli_run.proofs.WriterSteps.{tells_first, tells_second}
use Rattle.cli_run.proofs.output_writer.OutputWriterMessageVisitor.tell.Goals as goal

pub returns-then-is_silent-clause-tells : goal.returns-then-is_silent-clause-tells
returns-then-is_silent-clause-tells g c =
    tells_first g.C.Renderer.stands g.C.Renderer.makes g.C.Renderer.follows g.C.Renderer.silent g.W.Sink.held g.W.Sink.failures g.E.Sink.held g.E.Sink.failures g.met.C.Renderer.nothing c.args.self.now _ refl refl refl refl c.requires c.args.text.now
    (sym c.is_silent.ensures ∙ c.if-is_silent.true) refl c.write_text.result c.write_text.ensures

pub returns-else-is_silent-clause-tells : goal.returns-else-is_silent-clause-tells
returns-else-is_silent-clause-tells g c =
    tells_second g.C.Renderer.stands g.C.Renderer.makes g.C.Renderer.follows g.C.Renderer.silent g.W.Sink.held g.W.Sink.failures g.E.Sink.held g.E.Sink.failures g.met.C.Renderer.nothing c.args.self.now _ refl refl refl refl c.requires c.args.text.now
    (sym c.is_silent.ensures ∙ c.if-is_silent.false) refl c.write_text-else-is_silent.result c.write_text-else-is_silent.ensures
