use Rattle.std.proofs.Common.{None, inr, sym}
use Rattle.cli_run.specs.ByName.{MakesCounts, first_counts, table_form}
use Rattle.cli_run.specs.CountLaws.{nothing}
use Rattle.cli_run.specs.Learning.{known}
use Rattle.cli_run.proofs.EndSteps.{unread}
use Rattle.cli_run.proofs.by_name.count_by_name.Goals as goal

pub returns-in_default : goal.returns-in_default
returns-in_default g c =
    let start = first_counts (table_form c.args.settings.as_json) c.args.selection.now in
    inr (unread MakesCounts start _ _ g.R.Source.left g.R.Source.calls g.R.Source.failures g.R.Source.packets c.args.reader.now g.W.Sink.held g.W.Sink.failures c.args.first.now g.E.Sink.held g.E.Sink.failures c.args.second.now c.give_up.new.second
    c.args.settings _ c.give_up.result (nothing start) c.give_up.ensures.failed c.give_up.ensures.told)

pub returns : goal.returns
returns g c =
    let own = c.in-Ok.ensures in
    c.run_to_end.ensures (first_counts (table_form c.args.settings.as_json) c.args.selection.now)
    (λ i. record { form = sym c.table_form.ensures i; selection = sym own i; owners = known (sym own i) None; counts = λ name. sym (c.new.ensures name) i; span = None }) (λ parts items placed. tt)
