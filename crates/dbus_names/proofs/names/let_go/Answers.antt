use Rattle.std.proofs.Common.{ap, sym, ◌∙◌}
use Rattle.dbus_calls.specs.Events.{event_seen}
use Rattle.dbus_names.specs.Kept.{first_of, kept_names}
use Rattle.dbus_names.specs.NameStates.{if_had, names_left}
use Rattle.dbus_names.proofs.Naming.{left_had}
use Rattle.dbus_names.proofs.names.let_go.Goals as goal

pub returns-in-Departure-clause-names : goal.returns-in-Departure-clause-names
returns-in-Departure-clause-names c = λ u.
    let old = c.args.owners.now in
    let first = c.args.first.now in
    (λ i. if_had (c.forget.ensures i) u (c.forget-in-Departure.ensures u i))
    ∙ (left_had old c.in-Departure.name.now u (first_of first u)
    ∙ ap (λ e. names_left (event_seen e) (kept_names first old) u) (sym c.in-Departure.is))
