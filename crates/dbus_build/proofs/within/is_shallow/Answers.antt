use Rattle.std.proofs.Common.{sym, ◌∙◌}
use Rattle.std.proofs.lemmas.Bool.{false≢true}
use Rattle.dbus_build.proofs.Finding.{found_ok}
use Rattle.dbus_build.proofs.within.is_shallow.Goals as goal

pub returns-then-is_ok : goal.returns-then-is_ok
returns-then-is_ok g c =
    let fields = found_ok _ _ _ c.first_unsound_field.result (rw c.deref.ensures.value at c.first_unsound_field.ensures) in
    let body = found_ok _ _ _ c.first_unsound.result (rw c.deref-then-is_ok.ensures.value at c.first_unsound.ensures) in
    (λ e. (fields.0 (sym c.if-is_ok.ensures.value), body.0 (sym c.is_ok-then-is_ok.ensures.value ∙ e)), λ h. c.is_ok-then-is_ok.ensures.value ∙ body.1 h.1)

pub returns-else-is_ok : goal.returns-else-is_ok
returns-else-is_ok g c =
    let fields = found_ok _ _ _ c.first_unsound_field.result (rw c.deref.ensures.value at c.first_unsound_field.ensures) in
    (λ e. absurd (false≢true (sym c.if-is_ok.false ∙ e)), λ h. c.is_ok.ensures.value ∙ fields.1 h.0)
