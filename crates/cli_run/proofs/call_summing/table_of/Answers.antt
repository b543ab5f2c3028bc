use Rattle.cli_run.proofs.SumSteps.{last_is}
use Rattle.cli_run.proofs.call_summing.table_of.Goals as goal

pub returns : goal.returns
returns c = λ wanted before earlier knows rising.
    last_is wanted c.args.form before earlier c.args.lacks_times _ _ c.args.sums c.finish.new.sink _ knows.sums (c.in_ok-finish.ensures.lists wanted before knows.keeps rising)
    c.in_ok-table.ensures.short c.in_ok-table.ensures.table (c.stray_replies.ensures _ wanted before knows.keeps) c.in_ok-note.ensures
