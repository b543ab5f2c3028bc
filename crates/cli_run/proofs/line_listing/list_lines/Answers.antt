use Rattle.std.proofs.Common.{[], inr, refl, sym}
use Rattle.cli_run.specs.LineLaws.{nothing}
use Rattle.cli_run.specs.LineListing.{MakesLines, first_lines}
use Rattle.cli_run.proofs.EndSteps.{unread}
use Rattle.cli_run.proofs.line_listing.list_lines.Goals as goal

pub returns-in_default : goal.returns-in_default
returns-in_default g c =
    let start = first_lines c.args.wanted.now c.args.settings.window in
    inr (unread MakesLines start _ _ g.R.Source.left g.R.Source.calls g.R.Source.failures g.R.Source.packets c.args.reader.now g.W.Sink.held g.W.Sink.failures c.args.first.now g.E.Sink.held g.E.Sink.failures c.args.second.now c.give_up.new.second
    c.args.settings _ c.give_up.result (nothing start) c.give_up.ensures.failed c.give_up.ensures.told)

pub returns-in_default-first_names : goal.returns-in_default-first_names
returns-in_default-first_names g c =
    let start = first_lines c.args.wanted.now c.args.settings.window in
    inr (unread MakesLines start _ _ g.R.Source.left g.R.Source.calls g.R.Source.failures g.R.Source.packets c.args.reader.now g.W.Sink.held g.W.Sink.failures c.args.first.now g.E.Sink.held g.E.Sink.failures c.args.second.now c.give_up-in_default-first_names.new.second
    c.args.settings _ c.give_up-in_default-first_names.result (nothing start) c.give_up-in_default-first_names.ensures.failed c.give_up-in_default-first_names.ensures.told)

pub returns : goal.returns
returns g c =
    c.run_by.ensures (first_lines c.args.wanted.now c.args.settings.window)
    ([], λ i. record { wanted = record { selection = sym c.in-Ok.ensures i; width = c.args.wanted.now.width }; window = c.args.settings.window; names = sym c.in-Ok-first_names.ensures i; before = [] }, c.new.ensures) (λ items. tt)
