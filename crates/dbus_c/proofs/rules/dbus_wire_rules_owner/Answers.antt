use Rattle.std.proofs.Common.{List, ℕ, refl, subst}
use Rattle.dbus_c_handle.specs.Rules.{SetsOwner}
use Rattle.dbus_c.specs.Rules.{no_name, noted}
use Rattle.dbus_c.proofs.rules.dbus_wire_rules_owner.Goals as goal

pub returns-in_default : goal.returns-in_default
returns-in_default c = no_name (λ name owner. c.in_default.ensures name) refl refl

pub returns-in-Ok : goal.returns-in-Ok
returns-in-Ok c =
    let name = c.in-Some.ensures in
    let owner = c.in-Some-owner_name.ensures in
    let before = c.args.rules.now.state in
    let new = c.set_owner.new.self.state in
    let of_owner = subst (λ (w : List ℕ). SetsOwner c.in-Some.name.now w before new) owner.1 c.in-Ok.ensures in
    noted name.0 owner.0 (subst (λ (w : List ℕ). SetsOwner w c.args.owner.now before new) name.1 of_owner) refl
