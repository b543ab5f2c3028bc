use Rattle.std.proofs.Common.{sym, ◌∙◌}
use Rattle.std.proofs.lemmas.Bool.{false≢true}
use Rattle.dbus_rule_set.proofs.asked.Asked.matches.Goals as goal

pub returns-then-is_asked : goal.returns-then-is_asked
returns-then-is_asked g c = λ order m v.
    let hold = c.keys_hold.ensures order m v in
    (λ t. (sym (c.is_asked.ensures order m v) ∙ c.if-is_asked.true, hold.0 t), λ h. hold.1 h.1)

pub returns-else-is_asked : goal.returns-else-is_asked
returns-else-is_asked g c = λ order m v. (
  λ t. absurd (false≢true (sym c.if-is_asked.false ∙ t)),
  λ h. absurd (false≢true (sym c.if-is_asked.false ∙ (c.is_asked.ensures order m v ∙ h.0))),
)
