use Rattle.std.proofs.Common.{List, ℕ, string_bytes, subst, sym}
use Rattle.dbus_count.specs.Tables.{IsSummary}
use Rattle.cli_run.specs.ByName.{CountsState}
use Rattle.cli_run.proofs.by_name.CountRendererEndRenderer.finish.Goals as goal

pub returns-clause-ends : goal.returns-clause-ends
returns-clause-ends g c = λ s there. (
  string_bytes c.in-Ok.text,
  (subst (λ (x : CountsState). IsSummary x.form x.counts x.span (string_bytes c.in-Ok.text)) (sym there) c.in-Ok.ensures, c.new.ensures.bytes),
  subst (λ (t : List ℕ). g.D.Draft.gains c.args.draft.now t c.push_str.new.self) c.as_str.ensures.value c.push_str.ensures,
)
