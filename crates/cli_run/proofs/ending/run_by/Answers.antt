use Rattle.std.proofs.Common.{◌≡◌, Bool, rules, inl, inr, refl, subst}
use Rattle.cli_run.specs.Told.{TellsStop}
use Rattle.cli_run.proofs.EndSteps.{taken_by}
use Rattle.cli_run.proofs.WriterSteps.{ran, stopped}
use Rattle.cli_run.proofs.ending.run_by.Goals as goal

pub returns-in-Ok : goal.returns-in-Ok
returns-in-Ok g c = λ s there comes.
    let passes = rw c.in-Ok.is at c.pass_through-ended.ensures.passes in
    let same_first = (taken_by passes).2.same_first in
    let same_second = (taken_by passes).2.same_second in
    let first : c.pass_through-ended.new.visitor.first.now ≡ c.first-1.given.0 = search rules in
    let second : c.pass_through-ended.new.visitor.second.now ≡ c.second-1.given.0 = search rules in
    let source : c.pass_through-ended.result.1.now ≡ c.reader-1.given.0 = search rules in
    inl (ran g.C.Renderer.stands g.C.Renderer.makes g.C.Renderer.follows g.C.Renderer.silent g.W.Sink.held g.W.Sink.failures g.E.Sink.held g.E.Sink.failures g.met.C.Renderer.nothing _ c.pass_through-ended.new.visitor s there
    c.new.ensures first second refl g.C.Renderer.full g.R.Source.left g.R.Source.calls g.R.Source.failures g.R.Source.packets c.args.settings c.args.reads c.args.reader.now c.pass_through-ended.result.1.now source comes g.C.Renderer.spent g.met.C.Renderer.fills
    c.is_silent-is_check.result c.is_silent-is_check.ensures (λ size reads. elim reads [ inl none ↦ inl none | inr some ↦ inr (some.0, some.1.now, some.2, some.3, some.4) ]) (rw c.in-Ok.is at c.pass_through-ended.ensures.settled) passes)

pub returns : goal.returns
returns g c = λ s there comes.
    let passes = rw c.in-Err.is at c.pass_through-ended.ensures.passes in
    let same_first = passes.came.same_first in
    let same_second = passes.came.same_second in
    let first : c.pass_through-ended.new.visitor.first.now ≡ c.first-1.given.0 = search rules in
    let second : c.pass_through-ended.new.visitor.second.now ≡ c.second-1.given.0 = search rules in
    let source : c.pass_through-ended.result.1.now ≡ c.reader-1.given.0 = search rules in
    let checks = c.is_silent-is_check.ensures in
    inr (record {
      failed = c.tell_stop.ensures.failed;
      stop = c.in-Err.stop;
      before = c.second-1.given.0;
      within = stopped g.C.Renderer.stands g.C.Renderer.makes g.C.Renderer.follows g.C.Renderer.silent g.W.Sink.held g.W.Sink.failures g.E.Sink.held g.E.Sink.failures g.met.C.Renderer.nothing _ c.pass_through-ended.new.visitor s there
          c.new.ensures first second refl g.C.Renderer.full g.R.Source.left g.R.Source.calls g.R.Source.failures g.R.Source.packets c.args.settings c.args.reads c.args.reader.now c.pass_through-ended.result.1.now source comes g.C.Renderer.spent g.met.C.Renderer.fills
          c.is_silent-is_check.result checks passes;
      tells = subst (λ (x : Bool). TellsStop g.E.Sink.held g.E.Sink.failures x c.in-Err.stop c.second-1.given.0 c.tell_stop.new.second) checks c.tell_stop.ensures.tells;
    })
