use Rattle.cli_run.proofs.closing.counts_json.Goals as goal

pub returns : goal.returns
returns g c = rw (c.saturating_sub-count.ensures, c.saturating_sub-size.ensures, c.truth-cut_off.ensures) at c.format.ensures.ok
