use Rattle.std.proofs.Common.{subst}
use Rattle.dbus_value_model.specs.declared.order.Order.{Order}
use Rattle.cli_run.specs.Output.{shown_text}
use Rattle.cli_run.proofs.OutputSteps.{validated_whole}
use Rattle.cli_run.proofs.showing.write_shown.Goals as goal

pub returns : goal.returns
returns g c = λ order m whole.
    let lent = c.args.lent.now in
    let own = validated_whole lent.limits lent.bytes.now lent.validated order m c.requires whole in
    subst (λ (o : Order). g.D.Draft.gains c.args.draft.now (shown_text o m c.args.place) c.write_message.new.draft) own.0
    (g.met.D.Draft.joins _ _ _ _ _ c.write_time.ensures (c.write_message.ensures.shown m own.1))
