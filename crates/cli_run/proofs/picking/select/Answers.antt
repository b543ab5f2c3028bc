use Rattle.std.proofs.Common.{Some, ap, ◌∙◌, subst}
use Rattle.std.specs.Bool.{Decides}
use Rattle.dbus_names.specs.NameStates.{NameState}
use Rattle.dbus_rule_set.specs.Owners.{OwnerSet, owners_in}
use Rattle.cli_options.specs.Selections.{SelectsBy}
use Rattle.cli_run.specs.Learning.{known_after}
use Rattle.cli_run.proofs.OutputSteps.{views_it}
use Rattle.cli_run.proofs.picking.select.Goals as goal

pub returns : goal.returns
returns c = λ order m whole.
    let views = views_it c.args.lent.now.limits c.args.lent.now.bytes.now c.of_validated-view.result order m c.of_validated-view.ensures.viewed whole in
    let selection = c.args.selector.now.selection.now in
    let known = c.in_ok-known.ensures in
    let owners = c.owners.ensures ∙ ap (λ (state : NameState). state.owners) known in
    record {
      selects = subst (λ (os : OwnerSet). Decides c.selects-is_selected.result (SelectsBy selection (owners_in os) m)) owners (c.selects-is_selected.ensures order m views);
      owners = c.in_ok-learn.ensures order m views ∙ ap (λ (state : NameState). known_after (Some selection) state m) known;
    }
