use Rattle.std.proofs.Common.{◌≡◌, None, Some, true, false, if◌then◌else◌, refl, sym, ap, ◌∙◌, option_map}
use Rattle.dbus_calls.specs.Changes.{change_seen}
use Rattle.dbus_calls.specs.OwnerChanges.{change_of, name_of}
use Rattle.dbus_names.specs.Kept.{first_of, kept_names}
use Rattle.dbus_names.specs.NameStates.{named_by, wanted_change}
use Rattle.dbus_names.proofs.KeptSteps.{on_ok}
use Rattle.dbus_names.proofs.Naming.{named_still, same_no_more, unwanted}
use Rattle.dbus_names.proofs.names.note_signal.Goals as goal

pub returns-in_default-clause-named : goal.returns-in_default-clause-named
returns-in_default-clause-named g c = λ order m v u.
    let wants = g.F.NameFilter.wanted c.args.filter.now in
    let os = c.args.owners.now in
    let first = c.args.first.now in
    let none : change_of m ≡ None = sym (c.change.ensures ∙ c.event.ensures.change order m v) ∙ ap (option_map change_seen) c.in_default.is in
    named_still os os u None (first_of first u) refl (same_no_more os u)
    ∙ ap (λ said. named_by (wanted_change wants said) os (kept_names first os) u) (sym none)

pub returns-then-wants-clause-named : goal.returns-then-wants-clause-named
returns-then-wants-clause-named g c = λ order m v.
    let wants = g.F.NameFilter.wanted c.args.filter.now in
    let change = change_seen c.in-Some.change in
    let told : change_of m ≡ Some change = sym (c.change.ensures ∙ c.event.ensures.change order m v) ∙ ap (option_map change_seen) c.in-Some.is in
    let wanted : wants (name_of change) ≡ true = ap wants (sym c.name.ensures) ∙ (sym c.wants.ensures ∙ c.if-wants.true) in
    let said : wanted_change wants (change_of m) ≡ Some change = ap (λ s. wanted_change wants s) told ∙ ap (λ b. if b then Some change else None) wanted in
    on_ok c.note.result (λ named u. named u ∙ ap (λ s. named_by s c.note.new.owners (kept_names c.args.first.now c.args.owners.now) u) (sym said)) c.note.ensures.named

pub returns-else-wants-clause-named : goal.returns-else-wants-clause-named
returns-else-wants-clause-named g c = λ order m v u.
    let wants = g.F.NameFilter.wanted c.args.filter.now in
    let os = c.args.owners.now in
    let first = c.args.first.now in
    let change = change_seen c.in-Some.change in
    let told : change_of m ≡ Some change = sym (c.change.ensures ∙ c.event.ensures.change order m v) ∙ ap (option_map change_seen) c.in-Some.is in
    let other : wants (name_of change) ≡ false = ap wants (sym c.name.ensures) ∙ (sym c.wants.ensures ∙ c.if-wants.false) in
    named_still os os u (wanted_change wants (Some change)) (first_of first u) (unwanted wants change u other) (same_no_more os u)
    ∙ ap (λ said. named_by (wanted_change wants said) os (kept_names first os) u) (sym told)
