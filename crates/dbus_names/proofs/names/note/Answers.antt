use Rattle.std.proofs.Common.{◌≡◌, Some, refl, sym, subst, ap, ◌∙◌}
use Rattle.dbus_rule_set.specs.Owners.{OwnerSet}
use Rattle.dbus_calls.specs.Changes.{change_seen, owner_seen}
use Rattle.dbus_calls.specs.OwnerChanges.Change.{Free, Lost}
use Rattle.dbus_names.specs.Kept.{first_of, kept_names}
use Rattle.dbus_names.specs.NameStates.{named_by}
use Rattle.dbus_names.proofs.Naming.{freed, lost, named_still}
use Rattle.dbus_names.proofs.names.note.Goals as goal

pub returns-in-Free-clause-named : goal.returns-in-Free-clause-named
returns-in-Free-clause-named c = λ u.
    let old = c.args.owners.now in
    let first = c.args.first.now in
    let name = c.in-Free.name.now in
    let now = c.remove.new.self in
    let named : kept_names first now u ≡ named_by (Some (Free name)) now (kept_names first old) u =
    subst (λ (os : OwnerSet). kept_names first os u ≡ named_by (Some (Free name)) os (kept_names first old) u) (sym c.remove.ensures)
    (named_still old _ u (Some (Free name)) (first_of first u) refl (freed old name u)) in
    named ∙ ap (λ change. named_by (Some (change_seen change)) now (kept_names first old) u) (sym c.in-Free.is)

pub returns-in-Lost-clause-named : goal.returns-in-Lost-clause-named
returns-in-Lost-clause-named c = λ u.
    let old = c.args.owners.now in
    let first = c.args.first.now in
    let owner = c.in-Lost.owner in
    let now = c.lose.new.self in
    let named : kept_names first now u ≡ named_by (Some (Lost (owner_seen owner))) now (kept_names first old) u =
    subst (λ (os : OwnerSet). kept_names first os u ≡ named_by (Some (Lost (owner_seen owner))) os (kept_names first old) u) (sym c.lose.ensures)
    (named_still old _ u (Some (Lost (owner_seen owner))) (first_of first u) refl (lost old owner.name.now u owner.unique.now)) in
    named ∙ ap (λ change. named_by (Some (change_seen change)) now (kept_names first old) u) (sym c.in-Lost.is)
