use Rattle.std.proofs.Common.{◌≡◌, ℕ, length, set, Some, ap, arith, refl, rules}
use Rattle.dbus_message_model.specs.Messages.{FieldTree}
use Rattle.dbus_validate.specs.declared.seen.FieldPlace.{FieldPlace}
use Rattle.dbus_validate.proofs.SeenSteps.{noted_more, noted_past, placed_more, placed_past}
use Rattle.dbus_validate.proofs.seen.FieldPlaces.note.Goals as goal

pub returns-then-at-lt10-clause-noted : goal.returns-then-at-lt10-clause-noted
returns-then-at-lt10-clause-noted c = λ bytes fs v noted alone is fits.
    let places = c.args.self.now.places in
    let h = c.args.held in
    let place : FieldPlace = record { start = h.start; length = h.length; number = h.number } in
    let ten : length places ≡ 10 = search rules in
    noted_more fs bytes c.args.self.now noted (record { places = set places c.from-at.result (Some place) }) c.args.code v h alone is fits ten (omega (arith, c.from-at.ensures)) (ap (λ (i : ℕ). set places i (Some place)) c.from-at.ensures)

pub returns-then-at-lt10-clause-placed : goal.returns-then-at-lt10-clause-placed
returns-then-at-lt10-clause-placed c = λ order fs v placed alone begins.
    let places = c.args.self.now.places in
    let h = c.args.held in
    let place : FieldPlace = record { start = h.start; length = h.length; number = h.number } in
    let f : FieldTree = record { code = c.args.code; value = v } in
    let ten : length places ≡ 10 = search rules in
    placed_more order fs c.args.self.now (record { places = set places c.from-at.result (Some place) }) placed f alone h begins ten (omega (arith, c.from-at.ensures)) (ap (λ (i : ℕ). set places i (Some place)) c.from-at.ensures)

pub returns-else-at-lt10-clause-noted : goal.returns-else-at-lt10-clause-noted
returns-else-at-lt10-clause-noted c = λ bytes fs v noted alone is fits. noted_past fs bytes c.args.self.now noted c.args.self.now c.args.code v c.args.held alone is fits (omega (arith, c.from-at.ensures)) refl

pub returns-else-at-lt10-clause-placed : goal.returns-else-at-lt10-clause-placed
returns-else-at-lt10-clause-placed c = λ order fs v placed alone begins.
    let f : FieldTree = record { code = c.args.code; value = v } in
    placed_past order fs c.args.self.now c.args.self.now placed f alone (omega (arith, c.from-at.ensures)) refl
