use Rattle.std.proofs.Common.{sym, subst}
use Rattle.dbus_rule_set.specs.Owners.{OwnerSet}
use Rattle.dbus_calls.specs.Changes.{owner_seen}
use Rattle.std.specs.Prelude.{◌≡◌, Some}
use Rattle.dbus_calls.specs.OwnerChanges.Change.{Owned}
use Rattle.dbus_names.specs.Kept.{first_of, kept_names}
use Rattle.dbus_names.specs.NameStates.{named_by}
use Rattle.dbus_names.proofs.Naming.{named_anew}
use Rattle.dbus_names.proofs.names.note_owner.Goals as goal

pub returns-in-Ok-clause-named : goal.returns-in-Ok-clause-named
returns-in-Ok-clause-named c = λ u.
    let old = c.args.owners.now in
    let first = c.args.first.now in
    let now = c.note.new.self in
    subst (λ (os : OwnerSet). kept_names now os u ≡ named_by (Some (Owned (owner_seen c.args.owner))) os (kept_names first old) u) (sym c.in-Ok.ensures.set)
    (named_anew old c.args.owner.name.now c.args.owner.unique.now u (first_of first u) (first_of now u) (c.in_ok-is_first.ensures.noted u))
