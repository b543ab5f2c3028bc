use Rattle.std.proofs.Common.{refl}
use Rattle.cli_run.proofs.picking.picks.Goals as goal

pub returns-in-Some : goal.returns-in-Some
returns-in-Some c = λ order m whole. rw c.in-Some.is (c.select.ensures order m whole)

pub returns-in-None : goal.returns-in-None
returns-in-None c = λ order m whole. rw c.in-None.is (record { selects = (λ t. tt, λ u. refl); owners = refl })
