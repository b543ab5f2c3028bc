use Rattle.std.proofs.Common.{◌≡◌, rules, refl}
use Rattle.cli_run.proofs.WriterSteps.{breaks_one, gathers_none, gathers_one, same_page}
use Rattle.cli_run.proofs.output_writer.write_one.Goals as goal

pub returns-then-page-clause-writes : goal.returns-then-page-clause-writes
returns-then-page-clause-writes g c = λ order m whole s there comes.
    let r = c.take-taken.ensures.renders order m whole s there comes in
    let same = (same_page g.C.Renderer.stands g.W.Sink.held g.W.Sink.failures r.0 c.take-taken.new.self r.1 _ c.take-taken.new.draft c.take-taken.result r.3 c.take-taken.ensures.short).1 in
    let back : c.take-taken.new.draft.first.now ≡ c.first-1.given.0 = search rules in
    (r.0, r.1, r.2, breaks_one g.C.Renderer.stands g.W.Sink.held g.W.Sink.failures r.0 c.take-taken.new.self r.1 _ c.take-taken.new.draft refl back c.if-page.true c.take-taken.result r.3 c.take-taken.ensures.short)

pub returns-clause-writes : goal.returns-clause-writes
returns-clause-writes g c = λ order m whole s there comes.
    let r = c.take-taken.ensures.renders order m whole s there comes in
    let refs = same_page g.C.Renderer.stands g.W.Sink.held g.W.Sink.failures r.0 c.take-taken.new.self r.1 _ c.take-taken.new.draft c.take-taken.result r.3 c.take-taken.ensures.short in
    let too = refs.0 in
    let same = refs.1 in
    let back : c.take-taken.new.draft.first.now ≡ c.first-1.given.0 = search rules in
    let kept : c.take-taken.new.draft.gathered.now ≡ c.gathered-1.given.0 = search rules in
    (r.0, r.1, r.2, gathers_one g.C.Renderer.stands g.W.Sink.held g.W.Sink.failures r.0 c.take-taken.new.self r.1 _ c.take-taken.new.draft refl back kept c.if-page.false c.take-taken.result r.3 c.take-taken.ensures.short)

pub returns-clause-short : goal.returns-clause-short
returns-clause-short g c =
    gathers_none g.W.Sink.held g.W.Sink.failures _ c.take-taken.new.draft c.first-1.given.0 c.gathered-1.given.0 c.take-taken.result c.take-taken.ensures.short refl c.if-page.false (λ same. search rules) (λ same. search rules)
