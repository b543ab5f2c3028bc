use Rattle.cli_run.proofs.line_names.beside.Goals as goal

pub returns : goal.returns
returns c = λ order m views.
    λ i. record { answered = c.told_of.ensures i; sender = (c.known_names-known.ensures order m views i).sender; destination = (c.known_names-known.ensures order m views i).destination }
