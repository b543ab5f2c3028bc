use Rattle.cli_run.proofs.closing.counts_line.Goals as goal

pub returns : goal.returns
returns g c = rw (c.saturating_sub-count.ensures, c.saturating_sub-size.ensures, c.cut_text-end.ensures) at c.format.ensures.ok
