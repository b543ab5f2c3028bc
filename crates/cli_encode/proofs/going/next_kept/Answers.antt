use Rattle.cli_encode.proofs.ReadSteps.{gives_kept}
use Rattle.cli_encode.proofs.going.next_kept.Goals as goal

pub returns-in-Ok-clause-kept : goal.returns-in-Ok-clause-kept
returns-in-Ok-clause-kept g c = λ w kept. gives_kept w c.next_kept.new.self c.in-Ok.is_kept (c.in-Ok.ensures.kept w kept)
