use Rattle.std.proofs.Common.{List, ℕ, string_bytes, subst}
use Rattle.cli_report.specs.Gathering.{Breaks, gathered_bytes}
use Rattle.cli_report.proofs.GatherSteps.{breaks_nothing, passes_nothing, passes_whole}
use Rattle.cli_run.proofs.WriterSteps.{last_failed}
use Rattle.cli_run.proofs.ending.write_last.Goals as goal

pub returns-in-Ok-write_out : goal.returns-in-Ok-write_out
returns-in-Ok-write_out g c = λ s there.
    let h = c.in-Ok.ensures s there in (
      h.0,
      h.1,
      passes_whole g.W.Sink.held g.W.Sink.failures h.0 (gathered_bytes c.new-gathered.result) (gathered_bytes c.write_out.new.gathered) c.args.first.now c.write_out.new.first c.new-gathered.ensures c.write_out.ensures.emptied
          (passes_nothing g.W.Sink.held g.W.Sink.failures h.0 (gathered_bytes c.new-gathered.result) (gathered_bytes c.gather_last.new.gathered) (gathered_bytes c.write_out.new.gathered) c.args.first.now c.gather_last.new.first c.write_out.new.first h.2
          c.in-Ok-write_out.ensures.gathers),
    )

pub returns-in-Err-write_out : goal.returns-in-Err-write_out
returns-in-Err-write_out g c = λ s there.
    let h = c.in-Ok.ensures s there in (
      h.0,
      string_bytes c.in-Ok.note,
      h.1,
      subst (λ (l : List ℕ). Breaks g.W.Sink.held g.W.Sink.failures h.0 l c.args.first.now c.write_out.new.first) c.new-gathered.ensures
          (breaks_nothing g.W.Sink.held g.W.Sink.failures h.0 (gathered_bytes c.new-gathered.result) (gathered_bytes c.gather_last.new.gathered) c.args.first.now c.gather_last.new.first c.write_out.new.first h.2 c.in-Err-write_out.ensures.gathers),
    )

pub returns-in-Err : goal.returns-in-Err
returns-in-Err g c = λ s there.
    last_failed g.W.Sink.held g.W.Sink.failures g.C.Renderer.ends s c.in-Err.cause (gathered_bytes c.new-gathered.result) (gathered_bytes c.gather_last.new.gathered) c.args.first.now c.gather_last.new.first c.new-gathered.ensures (c.in-Err.ensures s there)
