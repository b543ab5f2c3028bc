use Rattle.std.proofs.Common.{◌≡◌, List, ℕ, None, Some, refl, sym, ap, ◌∙◌, option_map}
use Rattle.dbus_calls.specs.OwnerChanges.{Change}
use Rattle.dbus_calls.specs.OwnerChanges.Change.{Owned}
use Rattle.dbus_names.specs.Kept.{call_kept, first_of, kept_names}
use Rattle.dbus_names.specs.NameStates.{named_by}
use Rattle.dbus_names.specs.Telling.{reply_told}
use Rattle.dbus_names.proofs.KeptSteps.{on_ok}
use Rattle.dbus_names.proofs.Naming.{named_still, same_no_more}
use Rattle.dbus_names.proofs.names.note_reply.Goals as goal

-- it is said that a connection has this name
abbrev owned : (name unique : List ℕ) → Change
owned name unique = Owned (record { name = name; unique = unique })

pub returns-in_default-clause-named : goal.returns-in_default-clause-named
returns-in_default-clause-named c = λ order m v u.
    let os = c.args.owners.now in
    let first = c.args.first.now in
    let call = call_kept c.args.call.now in
    let none : reply_told call m ≡ None = ap (option_map (owned call.name)) (sym (c.holder_told.ensures order m v) ∙ ap (option_map (λ text. text.now)) c.in_default.is) in
    named_still os os u None (first_of first u) refl (same_no_more os u)
    ∙ ap (λ said. named_by said os (kept_names first os) u) (sym none)

pub returns-clause-named : goal.returns-clause-named
returns-clause-named c = λ order m v.
    let call = call_kept c.args.call.now in
    let unique = c.in-Some.unique.now in
    let told : reply_told call m ≡ Some (owned call.name unique) = ap (option_map (owned call.name)) (sym (c.holder_told.ensures order m v) ∙ ap (option_map (λ text. text.now)) c.in-Some.is) in
    let named_so : Some (owned c.as_str-name.result.now unique) ≡ Some (owned call.name unique) = ap (λ n. Some (owned n unique)) c.as_str-name.ensures.value in
    on_ok c.note_owner.result (λ named u. named u ∙ ap (λ s. named_by s c.note_owner.new.owners (kept_names c.args.first.now c.args.owners.now) u) (named_so ∙ sym told)) c.note_owner.ensures.named
