use Rattle.std.proofs.Common.{◌≡◌, refl, rules, string_bytes, subst}
use Rattle.std.proofs.Math.Path.{transport}
use Rattle.cli_report.specs.Gathering.{Breaks, Passes, gathered_bytes}
use Rattle.cli_run.proofs.ending.gather_last.Goals as goal

pub returns-then-page : goal.returns-then-page
returns-then-page g c = λ s there.
    let h = c.in-Ok.ensures.ends s there in
    let goes = h.2 in
    let same = goes.same_first in
    let back : c.finish.new.draft.first.now ≡ c.first-1.given.0 = search rules in
    (h.0, string_bytes c.in-Ok.note, h.1, subst (λ (w : g.row.W.Denot). Breaks g.W.Sink.held g.W.Sink.failures h.0 (gathered_bytes c.args.gathered.now) c.args.first.now w) back (goes.breaks refl c.if-page.true))

pub returns-else-page : goal.returns-else-page
returns-else-page g c = λ s there.
    let h = c.in-Ok.ensures.ends s there in
    let goes = h.2 in
    let same = goes.same_first in
    let too = goes.same_gathered in
    let back : c.finish.new.draft.first.now ≡ c.first-1.given.0 = search rules in
    let kept : c.finish.new.draft.gathered.now ≡ c.gathered-1.given.0 = search rules in
    (h.0, h.1, transport (λ i. Passes g.W.Sink.held g.W.Sink.failures h.0 (gathered_bytes c.args.gathered.now) (gathered_bytes (kept i)) c.args.first.now (back i)) (goes.passes refl c.if-page.false))
