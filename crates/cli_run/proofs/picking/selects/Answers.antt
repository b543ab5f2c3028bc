use Rattle.std.proofs.Common.{refl, subst}
use Rattle.std.specs.Bool.{Decides}
use Rattle.dbus_rule_set.specs.Owners.{OwnerSet, owners_in}
use Rattle.cli_options.specs.Selections.{SelectsBy}
use Rattle.cli_run.proofs.picking.selects.Goals as goal

pub returns-in-Some : goal.returns-in-Some
returns-in-Some c = λ order m views. rw c.in-Some.is (subst (λ (os : OwnerSet). Decides c.selects.result (SelectsBy c.in-Some.selector.selection.now (owners_in os) m)) c.owners.ensures (c.selects.ensures order m views))

pub returns-in-None : goal.returns-in-None
returns-in-None c = λ order m views. rw c.in-None.is (λ t. tt, λ u. refl)
