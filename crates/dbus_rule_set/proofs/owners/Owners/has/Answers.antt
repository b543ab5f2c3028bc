use Rattle.std.proofs.Common.{sym, ◌∙◌}
use Rattle.dbus_rule_set.specs.Groups.{owners_by}
use Rattle.dbus_rule_set.proofs.OwnerSets.{held, owned_in}
use Rattle.dbus_rule_set.proofs.owners.Owners.has.Goals as goal

pub returns : goal.returns
returns c = rw (← c.self.view_is) (
    let before = c.self.inside.by_name in
    let is = c.has.ensures ∙ sym (held before c.self.invariant.ordered c.args.name.now c.args.unique.now) in
    let owned = owned_in (owners_by before) c.args.name.now c.args.unique.now in
    (λ t. owned.1 (sym is ∙ t), λ h. is ∙ owned.0 h))
