use Rattle.std.proofs.Common.{◌≡◌, ℕ, List, length, rules, subst, sym, ap, ◌∙◌, OnOk}
use Rattle.dbus_value_model.specs.declared.order.Order.{Order}
use Rattle.dbus_message_model.specs.Messages.{message_bytes}
use Rattle.dbus_header.specs.MessageOutcomes.{IsWhole}
use Rattle.dbus_swap.specs.Byteswapping.{other}
use Rattle.cli_run.specs.Handing.{after_front}
use Rattle.cli_run.proofs.OutputSteps.{bytes_are, validated_order, validated_short}
use Rattle.cli_run.proofs.swapping.swap.Goals as goal

pub write_message-requires : goal.write_message-requires
write_message-requires g c = validated_short c.args.lent.now.limits c.args.lent.now.bytes.now c.args.lent.now.validated c.requires

pub returns-then-eq-clause-swaps : goal.returns-then-eq-clause-swaps
returns-then-eq-clause-swaps g c = λ order m whole.
    let limits = c.args.lent.now.limits in
    let b = c.args.lent.now.bytes.now in
    let j = c.args.lent.now.validated in
    let wanted : j.order ≡ c.args.wanted = search rules in
    let own = validated_order limits b j order m c.requires whole in
    let is : b ≡ message_bytes c.args.wanted m = bytes_are limits b order m whole ∙ ap (λ (o : Order). message_bytes o m) (sym own ∙ wanted) in
    subst (λ (l : List ℕ). g.D.Draft.gains c.args.draft.now (after_front c.args.front l) c.write_message.new.draft) is c.write_message.ensures

pub returns-else-eq-clause-swaps : goal.returns-else-eq-clause-swaps
returns-else-eq-clause-swaps g c = λ order m whole.
    let limits = c.args.lent.now.limits in
    let b = c.args.lent.now.bytes.now in
    let j = c.args.lent.now.validated in
    let wanted : other j.order ≡ c.args.wanted = search rules in
    let own = validated_order limits b j order m c.requires whole in
    let here : IsWhole limits b j.order m (length b) = subst (λ (o : Order). IsWhole limits b o m (length b)) (sym own) whole in
    subst (λ (o : Order). OnOk c.write_byteswapped.result (g.D.Draft.gains c.args.draft.now (after_front c.args.front (message_bytes o m)) c.write_byteswapped.new.draft)) wanted (c.write_byteswapped.ensures.swaps m here)
