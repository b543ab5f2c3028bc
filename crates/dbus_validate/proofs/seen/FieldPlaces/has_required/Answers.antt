use Rattle.std.proofs.Common.{◌≡◌, ℕ, List, ◌&&◌, true, false, get_or, sym, ap, ◌∙◌, arith}
use Rattle.std.proofs.lemmas.List.{drop_all}
use Rattle.std.proofs.lemmas.Bool.{and_parts}
use Rattle.dbus_message_model.specs.Messages.{is_known, has_code, lacks}
use Rattle.dbus_validate.proofs.SeenSteps.{lacks_later, lacks_one}
use Rattle.dbus_validate.proofs.seen.FieldPlaces.has_required.Goals as goal

pub loop-code-preserved : goal.loop-code-preserved
loop-code-preserved c = λ bytes fs noted.
    let items = c.required-code-items.result.now in
    let i = c.loop-code.code-index in
    let both : is_known (get_or items i 0) && has_code (get_or items i 0) fs ≡ true = sym (c.has.ensures bytes fs noted) ∙ c.if-not-has.false in
    lacks_later items i c.loop-code-test.true fs (and_parts _ _ both).1 ∙ c.loop-code.invariant bytes fs noted

pub returns-clause-accepts : goal.returns-clause-accepts
returns-clause-accepts c = λ bytes fs noted is. sym (c.loop-code.invariant bytes fs noted) ∙ ap (λ (l : List ℕ). lacks l fs) (drop_all c.loop-code.code-index c.required-code-items.result.now (omega arith))

pub returns-then-not-has-clause-refuses : goal.returns-then-not-has-clause-refuses
returns-then-not-has-clause-refuses c = λ bytes fs noted is none.
    let items = c.required-code-items.result.now in
    let i = c.loop-code.code-index in
    let unseen : is_known (get_or items i 0) && has_code (get_or items i 0) fs ≡ false = sym (c.has.ensures bytes fs noted) ∙ c.if-not-has.true in
    lacks_one c.args.kind items i fs c.required-code-items.ensures c.loop-code-test.true unseen (c.loop-code.invariant bytes fs noted ∙ none)
