use Rattle.std.proofs.Common.{◌≡◌, ℕ, List, [], Option, None, Some, sym, ◌∙◌}
use Rattle.dbus_value_model.specs.Values.{ValueTree, ValueTrees}
use Rattle.dbus_message_model.specs.KnownFields.{body_value}
use Rattle.dbus_match.specs.Matching.{string_of}
use Rattle.dbus_calls.specs.Changes.{others}
use Rattle.dbus_calls.specs.OwnerChanges.{change_said}
use Rattle.dbus_calls.proofs.Said.{later, no_more, one_more, string_later}
use Rattle.dbus_calls.proofs.changes.changed_by.Goals as goal

-- of these values
said : (xs : ValueTrees) (name old new : List ℕ) (more : Option ValueTree) → Some name ≡ string_of (body_value 0 xs) → Some old ≡ string_of (body_value 0 (others xs)) → Some new ≡ string_of (body_value 0 (others (others xs)))
    → body_value 0 (others (others (others xs))) ≡ more
    → change_said (string_of (body_value 0 xs)) (string_of (body_value 1 xs)) (string_of (body_value 2 xs)) (body_value 3 xs) ≡ change_said (Some name) (Some old) (Some new) more
said xs name old new more n o u e =
    let second = string_later 0 xs ∙ sym o in
    let third = string_later 1 xs ∙ (string_later 0 (others xs) ∙ sym u) in
    let fourth = later 2 xs ∙ (later 1 (others xs) ∙ (later 0 (others (others xs)) ∙ e)) in
    λ i. change_said (sym n i) (second i) (third i) (fourth i)

pub returns-then-is_some : goal.returns-then-is_some
returns-then-is_some c = λ order m v.
    let all = c.body-values.ensures.left order m v in
    let one = c.in_ok-name.ensures.left m.body [] all in
    let two = c.in_ok-_old.ensures.left (others m.body) [] one in
    let three = c.in_ok-unique.ensures.left (others (others m.body)) [] two in
    let more = one_more c.next.new.self (others (others (others m.body))) [] c.next.result (sym c.is_some.ensures ∙ c.if-is_some.true) (c.next.ensures.steps.first (others (others (others m.body))) [] three) in
    sym (said m.body c.in_ok-name.name.now c.in_ok-_old._old.now c.in_ok-unique.unique.now (Some more.0)
    (c.in_ok-name.ensures.text m.body [] all) (c.in_ok-_old.ensures.text (others m.body) [] one) (c.in_ok-unique.ensures.text (others (others m.body)) [] two) more.1)

pub returns : goal.returns
returns c = λ order m v.
    let all = c.body-values.ensures.left order m v in
    let one = c.in_ok-name.ensures.left m.body [] all in
    let two = c.in_ok-_old.ensures.left (others m.body) [] one in
    let three = c.in_ok-unique.ensures.left (others (others m.body)) [] two in
    let none = no_more c.next.new.self (others (others (others m.body))) [] c.next.result (sym c.is_some.ensures ∙ c.if-is_some.false) (c.next.ensures.steps.first (others (others (others m.body))) [] three) in
    c.owned_or_free.ensures
    ∙ sym (said m.body c.in_ok-name.name.now c.in_ok-_old._old.now c.in_ok-unique.unique.now None
    (c.in_ok-name.ensures.text m.body [] all) (c.in_ok-_old.ensures.text (others m.body) [] one) (c.in_ok-unique.ensures.text (others (others m.body)) [] two) none)
