use Rattle.std.proofs.Common.{refl}
use Rattle.dbus_match.specs.Matching.{ownership}
use Rattle.dbus_rule.specs.RuleViews.{rule_pairs}
use Rattle.cli_options.proofs.Selections.{copies_mapped}
use Rattle.cli_options.proofs.copies.SelectionClone.clone.Goals as goal

pub returns : goal.returns
returns c = record {
  cases = record {
    rules = copies_mapped rule_pairs c.args.self.now.rules.items c.in_ok-clone.field-0.items c.in_ok-clone.ensures.cases.0;
    inverted = refl;
    question = refl;
    owners = copies_mapped ownership c.args.self.now.owners.items c.in_ok-clone-2.field-0.items c.in_ok-clone-2.ensures.cases.0;
    learns = refl;
    as_bus = refl;
  };
}
