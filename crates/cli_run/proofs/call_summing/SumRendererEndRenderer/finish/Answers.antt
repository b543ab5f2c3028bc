use Rattle.std.proofs.Common.{◌&&◌, List, ℕ, not, is_some, ◌∙◌, string_bytes, subst, sym}
use Rattle.std.proofs.Math.Path.{transport}
use Rattle.cli_run.specs.CallSumming.{IsLast}
use Rattle.cli_run.proofs.call_summing.SumRendererEndRenderer.finish.Goals as goal

pub returns-clause-ends : goal.returns-clause-ends
returns-clause-ends g c = λ s there.
    let lacks = (λ i. c.is_some.ensures i && not c.args.self.timed) ∙ (λ i. is_some (sym there.wanted_is i).slower && not (sym there.timed_is i)) in (
      string_bytes c.in-Ok.table,
      transport (λ i. IsLast s.wanted (sym there.wanted_is i).form s.before s.earlier (lacks i) (string_bytes c.in-Ok.table) (string_bytes c.in-Ok.note)) (c.in-Ok.ensures s.wanted s.before s.earlier there.knows there.rising),
      subst (λ (t : List ℕ). g.D.Draft.gains c.args.draft.now t c.push_str.new.self) c.as_str.ensures.value c.push_str.ensures,
    )
