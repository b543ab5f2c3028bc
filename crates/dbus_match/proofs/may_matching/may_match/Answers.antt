use Rattle.std.proofs.Common.{option_map, refl}
use Rattle.dbus_message_model.specs.MessageViews.{message_tree}
use Rattle.dbus_match.specs.Matching.{ownerships}
use Rattle.dbus_match.proofs.TakenFor.{may_match}
use Rattle.dbus_match.proofs.may_matching.may_match.Goals as goal

pub returns : goal.returns
returns g c =
    let m = message_tree c.args.message.now in
    may_match m (option_map (λ s. s.now) c.args.sender) (ownerships c.args.owners.now) c.args.rule.now c.each_may_hold.result (c.each_may_hold.ensures m refl)
