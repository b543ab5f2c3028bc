use Rattle.std.proofs.Common.{sym, subst}
use Rattle.cli_report.specs.Explaining.{IsExplainedIn}
use Rattle.cli_report.specs.declared.telling.Form.{Form}
use Rattle.cli_report.proofs.telling.write_explained.Goals as goal

pub returns-in-Lines : goal.returns-in-Lines
returns-in-Lines g c =
    let e = c.explain_message.ensures in
    (e.0, subst (λ (form : Form). IsExplainedIn form c.args.refused.now e.0) (sym c.in-Lines.is) e.1, e.3)

pub returns-in-Members : goal.returns-in-Members
returns-in-Members g c =
    let e = c.write_refusal_members.ensures in
    (e.0, subst (λ (form : Form). IsExplainedIn form c.args.refused.now e.0) (sym c.in-Members.is) e.1, e.2)
