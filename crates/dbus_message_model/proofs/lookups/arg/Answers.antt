use Rattle.std.proofs.Common.{◌≡◌, ap, ◌∙◌}
use Rattle.dbus_value_model.specs.ValueViews.{value_trees_of}
use Rattle.dbus_message_model.specs.Messages.{MessageTree}
use Rattle.dbus_message_model.specs.MessageViews.{message_tree}
use Rattle.dbus_message_model.proofs.KnownValues.{value_found, kept_found}
use Rattle.dbus_message_model.proofs.lookups.arg.Goals as goal

pub returns-clause-numbered : goal.returns-clause-numbered
returns-clause-numbered g c =
    let body : value_trees_of c.deref.result.now ≡ (message_tree c.args.message.now).body = ap value_trees_of c.deref.ensures.value ∙ ap (λ (m : MessageTree). m.body) c.parts.ensures.same in
    rw (← body) (value_found c.deref.result.now c.args.n _ c.get.result c.get.ensures.lookup.1 c.get.ensures.lookup.3)

pub returns-clause-packed : goal.returns-clause-packed
returns-clause-packed g c = kept_found c.deref.result.now c.args.n _ c.get.result (rw c.deref.ensures.value c.parts.ensures.packed.1) c.get.ensures.lookup.1 c.get.ensures.lookup.3
