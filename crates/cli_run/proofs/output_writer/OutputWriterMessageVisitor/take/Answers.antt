use Rattle.std.proofs.Common.{length, refl}
use Rattle.cli_report.specs.Gathering.{gathered_bytes}
use Rattle.cli_run.specs.OutputWriting.{placed_at}
use Rattle.cli_run.proofs.WriterSteps.{runs_out, runs_short, stops_one, takes_one}
use Rattle.cli_run.proofs.output_writer.OutputWriterMessageVisitor.take.Goals as goal

pub returns-in-Ok-Ok : goal.returns-in-Ok-Ok
returns-in-Ok-Ok g c = λ order m whole.
    let wrote = rw c.in-Ok-Ok.field-0-is at c.in-Ok-Ok.ensures in
    takes_one g.C.Renderer.stands g.C.Renderer.makes g.C.Renderer.follows g.C.Renderer.silent g.W.Sink.held g.W.Sink.failures g.E.Sink.held g.E.Sink.failures g.met.C.Renderer.nothing c.args.self.now _ refl refl g.met.C.Renderer.quiet
    (placed_at c.args.lent.now.place order m (length c.args.lent.now.bytes.now)) refl wrote.silent (wrote.writes order m whole)

pub returns-in-Ok : goal.returns-in-Ok
returns-in-Ok g c = λ order m whole.
    let short = rw c.in-Ok-Err.field-0-is at c.in-Ok-Err.ensures in
    runs_short g.C.Renderer.stands g.C.Renderer.makes g.C.Renderer.follows g.C.Renderer.silent g.W.Sink.held g.W.Sink.failures g.E.Sink.held g.E.Sink.failures g.met.C.Renderer.nothing c.args.self.now _ refl refl g.met.C.Renderer.quiet
    (placed_at c.args.lent.now.place order m (length c.args.lent.now.bytes.now)) refl (gathered_bytes c.write_one.new.gathered) c.write_one.new.first
    short.short c.write_out.ensures.emptied c.in-Ok.ensures.gathers

pub returns-in-Err-write_out : goal.returns-in-Err-write_out
returns-in-Err-write_out g c = λ order m whole.
    let short = rw c.in-Ok-Err.field-0-is at c.in-Ok-Err.ensures in
    runs_out g.C.Renderer.stands g.C.Renderer.makes g.C.Renderer.follows g.C.Renderer.silent g.W.Sink.held g.W.Sink.failures g.E.Sink.held g.E.Sink.failures g.met.C.Renderer.nothing c.args.self.now _ refl refl g.met.C.Renderer.quiet
    (placed_at c.args.lent.now.place order m (length c.args.lent.now.bytes.now)) refl (gathered_bytes c.write_one.new.gathered) c.write_one.new.first
    short.short c.write_one.new.renderer _ (short.writes order m whole) c.in-Err-write_out.ensures.gathers

pub returns-in-Err : goal.returns-in-Err
returns-in-Err g c = λ order m whole.
    stops_one g.C.Renderer.stands g.C.Renderer.makes g.C.Renderer.follows g.C.Renderer.silent g.W.Sink.held g.W.Sink.failures g.E.Sink.held g.E.Sink.failures g.met.C.Renderer.nothing c.args.self.now _ refl refl g.met.C.Renderer.quiet
    (placed_at c.args.lent.now.place order m (length c.args.lent.now.bytes.now)) refl c.write_one.new.renderer (gathered_bytes c.write_one.new.gathered) _ (c.in-Err.ensures.writes order m whole)
