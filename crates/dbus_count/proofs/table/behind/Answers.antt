use Rattle.std.proofs.Common.{ap, ◌∙◌}
use Rattle.dbus_count.proofs.RowLaws.{behind_is}
use Rattle.dbus_count.proofs.table.behind.Goals as goal

pub returns : goal.returns
returns c = ap (λ x. x.now) c.unwrap_or.ensures ∙ behind_is c.strip_prefix.result c.args.text c.args.front.now c.strip_prefix.ensures.cases
