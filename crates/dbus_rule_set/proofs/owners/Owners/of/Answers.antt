use Rattle.std.proofs.Common.{Option, false, sym, ap, ◌∙◌}
use Rattle.std.specs.Prelude.{String}
use Rattle.std.specs.BTreeSet.{BTreeSet, contains_text}
use Rattle.std.specs.Option.{option_map_or}
use Rattle.std.specs.declared.alloc.Global.{Global}
use Rattle.dbus_rule_set.proofs.OwnerSets.{found, held}
use Rattle.dbus_rule_set.proofs.owners.Owners.of.Goals as goal

pub returns : goal.returns
returns c = rw (← c.self.view_is) (λ name.
    found c.get.result name
    ∙ (ap (λ (o : Option (BTreeSet (String Global))). option_map_or (λ names. contains_text names name) o false) c.get.ensures.value
    ∙ (sym (c.self.invariant.converse name c.args.unique.now) ∙ sym (held c.self.inside.by_name c.self.invariant.ordered name c.args.unique.now))))
