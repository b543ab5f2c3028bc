use Rattle.std.proofs.Common.{◌≡◌, false, Ok, Err, rules, inl, inr, refl, sym, subst, ◌∙◌}
use Rattle.cli_report.specs.Devices.{writing}
use Rattle.cli_run.specs.Making.{WritesLast}
use Rattle.cli_run.proofs.EndSteps.{taken_by}
use Rattle.cli_run.proofs.WriterSteps.{gave_up, to_end}
use Rattle.cli_run.proofs.ending.run_to_end.Goals as goal

pub returns-in-Ok-write_last : goal.returns-in-Ok-write_last
returns-in-Ok-write_last g c = λ s there comes.
    let passes = rw c.in-Ok.is at c.pass_through-ended.ensures.passes in
    let same_first = (taken_by passes).2.same_first in
    let same_second = (taken_by passes).2.same_second in
    let source : c.pass_through-ended.result.1.now ≡ c.reader-1.given.0 = search rules in
    let second : c.pass_through-ended.new.visitor.second.now ≡ c.second-1.given.0 = search rules in
    let first : c.pass_through-ended.new.visitor.first.now ≡ c.into_inner-writer.result.now = search rules in
    let last : c.write_last.new.first ≡ c.first-1.given.0 = search rules in
    let wrote = λ (t : g.C.Renderer.State) (stands : g.C.Renderer.stands c.pass_through-ended.new.visitor.renderer t).
    subst (λ (w : g.row.W.Denot). WritesLast g.C.Renderer.ends t (writing g.W.Sink.held g.W.Sink.failures c.into_inner-writer.result.now w) (Ok c.in-Ok-write_last.note)) last
    (c.in-Ok-write_last.ensures t (subst (λ (r : g.row.C.Denot). g.C.Renderer.stands r t) (sym c.into_parts-renderer.ensures.renderer) stands)) in
    inl (to_end g.C.Renderer.stands g.C.Renderer.makes g.C.Renderer.follows g.C.Renderer.silent g.W.Sink.held g.W.Sink.failures g.E.Sink.held g.E.Sink.failures g.met.C.Renderer.nothing _ c.pass_through-ended.new.visitor g.C.Renderer.full s there
    c.new.ensures first second (g.met.C.EndRenderer.loud c.args.renderer) g.met.C.EndRenderer.wants_all g.R.Source.left g.R.Source.calls g.R.Source.failures g.R.Source.packets c.args.settings _ c.args.reader.now c.pass_through-ended.result.1.now source comes g.C.Renderer.ends
    (rw c.in-Ok.is at c.pass_through-ended.ensures.settled) c.first-1.given.0 c.tell_note.new.second (Ok c.in-Ok-write_last.note) c.in-Ok.status c.tell_note.result wrote c.tell_note.ensures (λ size reads. elim reads [ inl none ↦ inl none | inr some ↦ inr (some.0, some.1.now, some.2, some.3, some.4) ]) passes)

pub returns-in-Err-write_last : goal.returns-in-Err-write_last
returns-in-Err-write_last g c = λ s there comes.
    let passes = rw c.in-Ok.is at c.pass_through-ended.ensures.passes in
    let same_first = (taken_by passes).2.same_first in
    let same_second = (taken_by passes).2.same_second in
    let source : c.pass_through-ended.result.1.now ≡ c.reader-1.given.0 = search rules in
    let second : c.pass_through-ended.new.visitor.second.now ≡ c.second-1.given.0 = search rules in
    let first : c.pass_through-ended.new.visitor.first.now ≡ c.into_inner-writer.result.now = search rules in
    let last : c.write_last.new.first ≡ c.first-1.given.0 = search rules in
    let wrote = λ (t : g.C.Renderer.State) (stands : g.C.Renderer.stands c.pass_through-ended.new.visitor.renderer t).
    subst (λ (w : g.row.W.Denot). WritesLast g.C.Renderer.ends t (writing g.W.Sink.held g.W.Sink.failures c.into_inner-writer.result.now w) (Err c.in-Err-write_last.cause)) last
    (c.in-Err-write_last.ensures t (subst (λ (r : g.row.C.Denot). g.C.Renderer.stands r t) (sym c.into_parts-renderer.ensures.renderer) stands)) in
    inl (to_end g.C.Renderer.stands g.C.Renderer.makes g.C.Renderer.follows g.C.Renderer.silent g.W.Sink.held g.W.Sink.failures g.E.Sink.held g.E.Sink.failures g.met.C.Renderer.nothing _ c.pass_through-ended.new.visitor g.C.Renderer.full s there
    c.new.ensures first second (g.met.C.EndRenderer.loud c.args.renderer) g.met.C.EndRenderer.wants_all g.R.Source.left g.R.Source.calls g.R.Source.failures g.R.Source.packets c.args.settings _ c.args.reader.now c.pass_through-ended.result.1.now source comes g.C.Renderer.ends
    (rw c.in-Ok.is at c.pass_through-ended.ensures.settled) c.first-1.given.0 c.give_up.new.second (Err c.in-Err-write_last.cause) c.in-Ok.status c.give_up.result wrote (c.give_up.ensures.told, c.give_up.ensures.failed) (λ size reads. elim reads [ inl none ↦ inl none | inr some ↦ inr (some.0, some.1.now, some.2, some.3, some.4) ]) passes)

pub returns-in-Err : goal.returns-in-Err
returns-in-Err g c = λ s there comes.
    let passes = rw c.in-Err.is at c.pass_through-ended.ensures.passes in
    let same_first = passes.came.same_first in
    let same_second = passes.came.same_second in
    let first : c.pass_through-ended.new.visitor.first.now ≡ c.in-Err.first-in-Err-ended-1-own.given.0 = search rules in
    let second : c.pass_through-ended.new.visitor.second.now ≡ c.second-1.given.0 = search rules in
    let source : c.pass_through-ended.result.1.now ≡ c.reader-1.given.0 = search rules in
    inr (record {
      failed = c.tell_stop.ensures.failed;
      stop = c.in-Err.stop;
      before = c.second-1.given.0;
      within = gave_up g.C.Renderer.stands g.C.Renderer.makes g.C.Renderer.follows g.C.Renderer.silent g.W.Sink.held g.W.Sink.failures g.E.Sink.held g.E.Sink.failures g.met.C.Renderer.nothing _ c.pass_through-ended.new.visitor s there
          c.new.ensures first second (g.met.C.EndRenderer.loud c.args.renderer) g.C.Renderer.full g.R.Source.left g.R.Source.calls g.R.Source.failures g.R.Source.packets c.args.settings _ c.args.reader.now c.pass_through-ended.result.1.now source comes false refl
          (λ items filled f. sym f.3 ∙ g.met.C.EndRenderer.wants_all f.0.renderer) passes;
      tells = c.tell_stop.ensures.tells;
    })
