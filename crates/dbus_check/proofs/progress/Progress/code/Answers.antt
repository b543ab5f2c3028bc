use Rattle.std.proofs.Common.{◌≡◌, ℕ, ◌+◌, ◌<◌, ◌≤◌, List, length, ◌&&◌, false}
use Rattle.dbus_message_model.specs.Messages.{is_known}
use Rattle.dbus_check.specs.Heading.{has}
use Rattle.dbus_check.specs.Progress.{Sees}
use Rattle.dbus_check.proofs.FieldSteps.{field_coded, less}
use Rattle.dbus_check.proofs.progress.Progress.code.Goals as goal

pub returns-clause-coded : goal.returns-clause-coded
returns-clause-coded c = λ to w.
    let x = c.args.self.now in
    let h = c.code_front.ensures in
    field_coded x to w c.requires.more c.args.bytes.now c.code_front.result (h.gives x.order w.kept.codes w.keeps.sees)
    (less (λ y. (0 < y.0) × (0 < y.1) × (y.1 ≤ length c.args.bytes.now) × (x.offset + y.1 ≤ x.end) × (3 ≤ x.limits.depth)) (λ y. (0 < y.1) × (x.offset + y.1 ≤ x.end)) c.code_front.result (λ y m. (m.1, m.3)) h.moves)
    (less (λ y. (codes : List ℕ) → Sees x.seen codes → is_known y.0 && has y.0 codes ≡ false) (λ y. is_known y.0 && has y.0 w.kept.codes ≡ false) c.code_front.result (λ y f. f w.kept.codes w.keeps.sees) h.once)
