use Rattle.cli_run.proofs.line_names.known_names.Goals as goal

pub returns : goal.returns
returns c = λ order m views.
    λ i. record { sender = c.sender_name.ensures order m views i; destination = c.destination_name.ensures order m views i }
