use Rattle.std.proofs.Common.{Option, false, sym, ap, ◌∙◌}
use Rattle.std.specs.Prelude.{String}
use Rattle.std.specs.BTreeSet.{BTreeSet, contains_text}
use Rattle.std.specs.Option.{option_map_or}
use Rattle.std.specs.declared.alloc.Global.{Global}
use Rattle.dbus_rule_set.proofs.OwnerSets.{found, held}
use Rattle.dbus_rule_set.proofs.owners.Owners.by.Goals as goal

pub returns : goal.returns
returns c = rw (← c.self.view_is) (λ unique.
    found c.get.result unique
    ∙ (ap (λ (o : Option (BTreeSet (String Global))). option_map_or (λ uniques. contains_text uniques unique) o false) c.get.ensures.value
    ∙ sym (held c.self.inside.by_name c.self.invariant.ordered c.args.name.now unique)))
