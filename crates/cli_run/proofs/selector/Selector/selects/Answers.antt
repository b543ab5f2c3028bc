use Rattle.std.proofs.Common.{Bool, true, false, not, refl}
use Rattle.std.specs.Bool.{Decides}
use Rattle.std.specs.Map.{values_of}
use Rattle.std.proofs.lemmas.Bool.{false≢true}
use Rattle.dbus_rule_set.specs.Held.{held}
use Rattle.dbus_rule_set.specs.Owners.{owners_in}
use Rattle.cli_options.specs.Selections.{OrInverted, SomeHolds}
use Rattle.cli_options.proofs.Selections.{selected}
use Rattle.cli_run.proofs.RuleSets.{selected_by, some_asked}
use Rattle.cli_run.proofs.selector.Selector.selects.Goals as goal

-- what always holds selects each message, or inverted none
always : (inverted : Bool) (P : Type 0) → P → Decides (not inverted) (OrInverted inverted P)
always false P holds = (λ t. holds, λ p. refl)
always true P holds = (λ t. absurd (false≢true t), λ none. absurd (none holds))

pub returns-then-takes_all : goal.returns-then-takes_all
returns-then-takes_all c = λ order m viewed.
    let os = owners_in c.args.owners.now in
    let selection = c.args.self.now.selection.now in
    let rules = selection.rules.items in
    always selection.is_inverted (SomeHolds selection.as_bus selection.question rules m os)
    (some_asked selection.as_bus selection.question m os rules (c.takes_all.ensures c.if-takes_all.true m os))

pub returns : goal.returns
returns c = λ order m viewed.
    let os = owners_in c.args.owners.now in
    let selection = c.args.self.now.selection.now in
    let rules = values_of (held c.args.self.now.rules) in
    let some = SomeHolds selection.as_bus selection.question in
    selected_by c.any_holds.result selection.is_inverted (some selection.rules.items m os) (some rules m os) (selected selection os m) (c.any_holds.ensures order m viewed)
    (c.args.self.now.same_rules selection.as_bus selection.question m os)
